-- The moment after several resolutions.
use Rattle.std.specs.Prelude.{◌≡◌, ℕ, ◌≤◌, Bool, true, false, ◌||◌, if◌then◌else◌, List, [], ◌∷◌, ◌++◌, Option, Some, None, IsTrue}
use Rattle.std.specs.List.{AllByRecursion}
use Rattle.std.proofs.Common.{refl, sym, ap, subst, ◌∙◌, arith}
use Rattle.mvcc_key.specs.Order.{Timestamp, Key, is_same_key, is_in_range, later}
use Rattle.mvcc_key.specs.History.{Version, Intent, History, intent_of, versions_of}
use Rattle.mvcc_key.proofs.EachLaws.{All-both}
use Rattle.mvcc_key.proofs.SameKeyLaws.{differs_back}
use Rattle.intent_meta.specs.Valid.{IsValid}
use Rattle.intent_meta.proofs.ChangesOnlyLaws.{changes_only-agrees}
use Rattle.stat_delta.specs.Moments.{stored_walls, greatest, IsStoredBy}
use Rattle.stat_delta.proofs.MomentLaws.{last_is_up_to, greatest_is_last, stored_later}
use Rattle.key_top.specs.Top.{moment_of}
use Rattle.key_top.proofs.StoredByLaws.{intent-by, version-by, below_bound, later-low, later-high}
use Rattle.intent_resolve.specs.Resolve.{Update, Resolution, Gone, Stays, Becomes, resolved}
use Rattle.intent_resolve.specs.Resolved.{IsResolvedTo}
use Rattle.intent_resolve.specs.views.Front.{front_by}
use Rattle.intent_resolve.specs.views.Gathered.{Done, IsDone, is_left, any_left, after_all, later_moment, moment_all}
use Rattle.intent_resolve.proofs.FormLaws.{LeftAt, resolution_at}
use Rattle.intent_resolve.proofs.ResolveLaws.{resolved_is, resolved_changes_only}
use Rattle.intent_resolve.proofs.EachLaws.{resolved_in, resolved_to}
use Rattle.intent_resolve.proofs.ChangeLaws.{moment-is}
use Rattle.intent_resolve.proofs.GatherLaws.{AreDone, done-rest, done-fits, after-is, still-there}

-- ---- what is stored by a moment

-- what is left of an intent is stored at the wall time of the update or later
left-by : (u : Update) (i : Intent) (r : Resolution) (key : Key) (h after : History) (m : ℕ) → IsStoredBy m after → IsResolvedTo r key h after → LeftAt u i r → is_left r ≡ true → u.ts.wall ≤ m
left-by u i Gone key h after m by to at left = absurd cc
left-by u i (Stays n) key h after m by to at left =
    let low = later-low i.ts u.ts in
    let same : n.ts.wall ≡ (later i.ts u.ts).wall = ap (λ (t : Timestamp). t.wall) at in
    let up = intent-by m after key n by to.intent in
    omega (arith, low, same, up)
left-by u i (Becomes v) key h after m by to at left =
    let same : v.ts.wall ≡ u.ts.wall = ap (λ (t : Timestamp). t.wall) at in
    let up = version-by m after key v (versions_of key h) by to.versions in
    omega (arith, same, up)

-- ---- one more

-- the moment after one more
step : (b : Bool) (last : ℕ) (u : Update) (i : Intent) (r : Resolution) → LeftAt u i r → i.ts.wall ≤ last
    → moment_of (if b then later_moment last u else last) (front_by r) ≤ (if b || is_left r then later_moment last u else last)
step true last u i Gone at by = omega arith
step true last u i (Stays n) at by =
    let high = later-high i.ts u.ts in
    let same : n.ts.wall ≡ (later i.ts u.ts).wall = ap (λ (t : Timestamp). t.wall) at in
    omega (arith, high, same, by)
step true last u i (Becomes v) at by = let same : v.ts.wall ≡ u.ts.wall = ap (λ (t : Timestamp). t.wall) at in omega (arith, same)
step false last u i Gone at by = omega arith
step false last u i (Stays n) at by =
    let high = later-high i.ts u.ts in
    let same : n.ts.wall ≡ (later i.ts u.ts).wall = ap (λ (t : Timestamp). t.wall) at in
    omega (arith, high, same, by)
step false last u i (Becomes v) at by = let same : v.ts.wall ≡ u.ts.wall = ap (λ (t : Timestamp). t.wall) at in omega (arith, same)

module _ (u : Update) (h : History) (last : ℕ) (valid : IsValid h) (range : IsTrue (is_in_range u.ts)) (by : IsStoredBy last h) where
  -- nothing is after the moment after all of them
  all-by : (ds : List Done) → AreDone u h ds → IsStoredBy (moment_all last u ds) (after_all ds h)
  all-by [] is = by
  all-by (d ∷ ds) is =
      let i : Intent = d.intent in
      let r : Resolution = d.resolution_is in
      let g : History = after_all ds h in
      let m : ℕ = moment_all last u ds in
      let one : IsDone u h d = is.each.0 in
      let moved : greatest m (stored_walls (resolved i.key g r)) ≡ moment_of m (front_by r) = moment-is m g i.key r (all-by ds (done-rest u h d ds is)) in
      stored_later (moment_of m (front_by r)) (moment_all last u (d ∷ ds)) (resolved i.key g r)
      (step (any_left ds) last u i r (resolution_at u i r one.resolves) (intent-by last h i.key i by one.own.there))
      (subst (λ n. IsStoredBy n (resolved i.key g r)) moved (greatest_is_last m (resolved i.key g r)))

  -- each key is what it is resolved to
  all-to : (ds : List Done) → AreDone u h ds → AllByRecursion (λ d. IsResolvedTo d.resolution_is d.intent.key h (after_all ds h)) ds
  all-to [] is = tt
  all-to (d ∷ ds) is =
      let i : Intent = d.intent in
      let r : Resolution = d.resolution_is in
      let g : History = after_all ds h in
      let after : History = resolved i.key g r in
      let before = after-is u h valid range ds (done-rest u h d ds is) in
      let fits = done-fits u h d is.each.0 in
      let only = resolved_changes_only g i r fits in (
        resolved_in r i.key g h after (before.others i.key is.distinct.0) (resolved_is g i r before.valid (still-there u h valid range d ds is) fits),
        All-both (λ e. is_same_key e.intent.key i.key ≡ false) (λ e. IsResolvedTo e.resolution_is e.intent.key h g) (λ e. IsResolvedTo e.resolution_is e.intent.key h after) ds
            (λ e differ to. resolved_to e.resolution_is e.intent.key h g after (changes_only-agrees i.key e.intent.key g after only (differs_back e.intent.key i.key differ)) to)
            is.distinct.0 (all-to ds (done-rest u h d ds is)),
      )

  -- where something is left the update's wall time is stored
  any-by : (m : ℕ) (after : History) (ds : List Done) → IsStoredBy m after → AllByRecursion (IsDone u h) ds → AllByRecursion (λ d. IsResolvedTo d.resolution_is d.intent.key h after) ds
      → any_left ds ≡ true → u.ts.wall ≤ m
  any-by m after [] stored each to left = absurd cc
  any-by m after (d ∷ ds) stored each to left = which (is_left d.resolution_is) refl left (any-by m after ds stored each.1 to.1)
    where
      which : (b : Bool) → is_left d.resolution_is ≡ b → (any_left ds || b) ≡ true → (any_left ds ≡ true → u.ts.wall ≤ m) → u.ts.wall ≤ m
      which true is some rest = left-by u d.intent d.resolution_is d.intent.key h after m stored to.0 (resolution_at u d.intent d.resolution_is (each.0).resolves) is
      which false is some rest = rest (or-false (any_left ds) some)
        where
          or-false : (a : Bool) → (a || false) ≡ true → a ≡ true
          or-false true e = refl
          or-false false e = e

  -- so their moment is the latest of the last one and of all that is stored
  pub moment-all : (ds : List Done) → AreDone u h ds → moment_all last u ds ≡ greatest last (stored_walls (after_all ds h))
  moment-all ds is = both (any_left ds) refl (all-by ds is)
    where
      after : History
      after = after_all ds h

      both : (b : Bool) → any_left ds ≡ b → IsStoredBy (if b then later_moment last u else last) after → (if b then later_moment last u else last) ≡ greatest last (stored_walls after)
      both true left stored =
          let high = below_bound last (later_moment last u) (stored_walls after) (omega arith) stored in
          let low = last_is_up_to last after in
          let own = any-by (greatest last (stored_walls after)) after ds (greatest_is_last last after) is.each (all-to ds is) left in
          omega (arith, high, low, own)
      both false left stored =
          let high = below_bound last last (stored_walls after) (omega arith) stored in
          let low = last_is_up_to last after in
          omega (arith, high, low)
