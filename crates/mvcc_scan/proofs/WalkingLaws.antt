-- A cursor on the way has taken what a walk takes of the keys behind it.
use Rattle.std.specs.Prelude.{◌<◌, true, false, not, List, [], ◌∷◌, length, Option, Some, None, Result, Ok, Err, is_some}
use Rattle.std.proofs.Common.{◌≡◌, refl, sym, ap, subst, ◌∙◌, arith}
use Rattle.mvcc_key.specs.Lists.{first, is_empty}
use Rattle.mvcc_key.specs.Order.{Key}
use Rattle.mvcc_key.specs.History.{History}
use Rattle.read_rule.specs.Read.{ReadRequest}
use Rattle.read_rule.specs.Scan as scan
use Rattle.read_rule.specs.Scan.{ScanLimits, nothing_taken, take_key, go_on, walk}
use Rattle.run_block.specs.RunFormat.{Run}
use Rattle.mvcc_cursor.specs.Standing.{Place, AtKey, Standing, anew, here}
use Rattle.mvcc_cursor.specs.WellFormed.{history_in}
use Rattle.mvcc_scan.specs.declared.taken.Taken.{Taken}
use Rattle.mvcc_scan.specs.declared.taken.Stop.{Stop}
use Rattle.mvcc_scan.specs.declared.taken.Stop.TheVariants as code
use Rattle.mvcc_scan.specs.views.Taking.{IsTaken, IsAfter}
use Rattle.mvcc_scan.specs.views.Walking.{Bounds, HasAhead, ahead_in, ahead, IsOnWayIn, IsOnWay, IsWalk}
use Rattle.mvcc_scan.proofs.CursorLaws.{at-first}

-- what a look at the cursor's key comes to
abbrev pub HasMet : ReadRequest → ScanLimits → Standing → Taken → Option Stop → Taken → Type 0
HasMet r l s old stop new =
    (key : Key) (t : scan.Taken) → s.at ≡ AtKey key → is_some (first (here s)) ≡ true → IsTaken l old t → IsAfter l t (take_key (history_in s.store) r l key t) stop new

module _ (b : Bounds) (store : List Run) (r : ReadRequest) (l : ScanLimits) (start : List Key) where
  -- the rest of the walk comes to what the whole walk comes to
  pub record IsWalking (s : Standing) (c : Taken) : Type 0 where
    pub store_is : s.store ≡ store
    pub way : IsOnWay b s
    pub t : scan.Taken
    pub taken : IsTaken l c t
    pub rest : walk (history_in store) r l (ahead b s) t ≡ walk (history_in store) r l start nothing_taken

  -- one key of the walk
  step : (h : History) (k : Key) (ks : List Key) (t : scan.Taken) (res : Result scan.Taken scan.Stop) → take_key h r l k t ≡ res → walk h r l (k ∷ ks) t ≡ go_on t res (walk h r l ks)
  unfolding walk
  step h k ks t res e = ap (λ o. go_on t o (walk h r l ks)) e

  -- without a key it is at its end
  pub walking-ends : (s : Standing) (c : Taken) → IsWalking s c → not (is_empty (ahead b s)) ≡ false → IsWalk l (walk (history_in store) r l start nothing_taken) (record { taken = c; stop = code.AtEnd })
  unfolding walk
  walking-ends s c w none = by (ahead b s) refl none
    where
      by : (ks : List Key) → ahead b s ≡ ks → not (is_empty ks) ≡ false → IsWalk l (walk (history_in store) r l start nothing_taken) (record { taken = c; stop = code.AtEnd })
      by [] e f = subst (λ x. IsWalk l x (record { taken = c; stop = code.AtEnd })) (ap (λ ks. walk (history_in store) r l ks w.t) (sym e) ∙ w.rest) (record { taken = w.taken; stop = refl })
      by (k ∷ ks) e f = absurd cc

  -- at a key that stops it, it ends so
  pub walking-stops : (s : Standing) (c : Taken) → IsWalking s c → not (is_empty (ahead b s)) ≡ true → (stop : Stop) (new : Taken) → HasMet r l s c (Some stop) new
      → IsWalk l (walk (history_in store) r l start nothing_taken) (record { taken = new; stop = stop })
  walking-stops s c w some stop new met = by (at-first b s w.way some)
    where
      by : (k : Key) × (s.at ≡ AtKey k) × (is_some (first (here s)) ≡ true) × ((ks : List Key) × (ahead b s ≡ k ∷ ks))
          → IsWalk l (walk (history_in store) r l start nothing_taken) (record { taken = new; stop = stop })
      by (k, at, there, (ks, is)) =
          res (take_key (history_in store) r l k w.t) refl (subst (λ st. IsAfter l w.t (take_key (history_in st) r l k w.t) (Some stop) new) w.store_is (met k w.t at there w.taken))
        where
          res : (o : Result scan.Taken scan.Stop) → take_key (history_in store) r l k w.t ≡ o → IsAfter l w.t o (Some stop) new
              → IsWalk l (walk (history_in store) r l start nothing_taken) (record { taken = new; stop = stop })
          res (Ok u) e after = absurd after
          res (Err why) e after =
              subst (λ x. IsWalk l x (record { taken = new; stop = stop })) (sym (step (history_in store) k ks w.t (Err why) e) ∙ ap (λ xs. walk (history_in store) r l xs w.t) (sym is) ∙ w.rest)
              (record { taken = after.1; stop = after.0 })

  -- the walk goes on, and less is ahead
  pub record HasStepped (s next : Standing) (new : Taken) : Type 0 where
    pub walking : IsWalking next new
    pub less : length (ahead b next) < length (ahead b s)

  -- past any other key it goes on
  pub walking-goes_on : (s : Standing) (c : Taken) → IsWalking s c → not (is_empty (ahead b s)) ≡ true → (new : Taken) → HasMet r l s c None new
      → (mid next : Standing) → anew mid ≡ anew s → next.store ≡ mid.store → ((key : Key) (keys : List Key) → IsOnWay b mid → ahead b mid ≡ key ∷ keys → HasAhead b keys next)
      → HasStepped s next new
  walking-goes_on s c w some new met mid next same stays go = by (at-first b s w.way some)
    where
      by : (k : Key) × (s.at ≡ AtKey k) × (is_some (first (here s)) ≡ true) × ((ks : List Key) × (ahead b s ≡ k ∷ ks)) → HasStepped s next new
      by (k, at, there, (ks, is)) =
          res (take_key (history_in store) r l k w.t) refl (subst (λ st. IsAfter l w.t (take_key (history_in st) r l k w.t) None new) w.store_is (met k w.t at there w.taken))
          (go k ks (subst (λ (q : List Run × Place). IsOnWayIn b q.0 q.1) (sym (ap (λ (x : Standing). (x.store, x.at)) same)) w.way) (ap (λ (x : Standing). ahead_in b x.store x.at) same ∙ is))
        where
          res : (o : Result scan.Taken scan.Stop) → take_key (history_in store) r l k w.t ≡ o → IsAfter l w.t o None new → HasAhead b ks next → HasStepped s next new
          res (Ok u) e after left = record {
            walking = record {
              store_is = stays ∙ ap (λ (x : Standing). x.store) same ∙ w.store_is;
              way = left.way;
              t = u;
              taken = after;
              rest = ap (λ xs. walk (history_in store) r l xs u) left.are ∙ sym (step (history_in store) k ks w.t (Ok u) e) ∙ ap (λ xs. walk (history_in store) r l xs w.t) (sym is) ∙ w.rest;
            };
            less =
                (let here_is : length (ahead b s) ≡ length (k ∷ ks) = ap length is in
                let left_is : length (ahead b next) ≡ length ks = ap length left.are in
                omega arith);
          }
          res (Err why) e after left = absurd after
