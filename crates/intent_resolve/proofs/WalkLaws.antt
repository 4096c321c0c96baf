-- A cursor goes over the intents of a transaction: those that are ahead of it, and how many keys are.
use Rattle.std.specs.Prelude.{ℕ, ◌<◌, ◌≤◌, ◌+◌, Bool, true, false, not, ◌&&◌, List, [], ◌∷◌, length, filter, find, Option, Some, None, IfSome, is_some, cond}
use Rattle.std.specs.declared.cmp.Ordering.{Ordering}
use Rattle.std.specs.declared.cmp.Ordering.TheVariants.{Less, Equal, Greater}
use Rattle.std.specs.Ordering.{is_lt, is_le, is_eq}
use Rattle.std.specs.Cmp.{tied_itself}
use Rattle.std.specs.List.{AllByRecursion}
use Rattle.std.specs.List.Sorted.{IsStrictlySortedBy}
use Rattle.std.proofs.Common.{◌≡◌, refl, sym, ap, subst, ◌∙◌, arith}
use Rattle.std.proofs.lemmas.List.{take_all}
use Rattle.std.proofs.lemmas.List.Filters.{length-filter_both}
use Rattle.mvcc_key.specs.Lists.{first}
use Rattle.mvcc_key.specs.Order.{Key, key_cmp, name_cmp, is_same_key, is_below, is_at_or_below, is_within}
use Rattle.mvcc_key.specs.Points.{Point}
use Rattle.mvcc_key.specs.History.{Intent, intent_cmp, History, intent_of}
use Rattle.mvcc_key.proofs.OrderLaws.{key_cmp-total, key_cmp-IsAntisymmetric}
use Rattle.mvcc_key.proofs.EachLaws.{All-weaker, All-every, All-filter, All-at_first, all_pass, first-some, none_first}
use Rattle.mvcc_key.proofs.FilterLaws.{filter-same, filter-twice, filter-follows, filter-none}
use Rattle.mvcc_key.proofs.FindLaws.{find-holds}
use Rattle.mvcc_key.proofs.FragmentLaws.{same_key}
use Rattle.mvcc_key.proofs.HistoryLaws.{intents_there, intent_of-key}
use Rattle.mvcc_key.proofs.StackLaws.{at_or_above, below-means, le_trans, not_below_is, same_key_is}
use Rattle.run_block.specs.RunFormat.{Run}
use Rattle.lsm_store.specs.Shown.{shown, points_in}
use Rattle.lsm_store.proofs.ApplyLaws.{sorted-shown}
use Rattle.mvcc_cursor.specs.KeyPoints.{is_of_key, points_of, key_in, key_from}
use Rattle.mvcc_cursor.specs.Standing.{Standing, Place, BeforeFirst, AtKey, PastLast, stored, points_at, here, told, at_place, or_past, next_place, sought_key}
use Rattle.mvcc_cursor.specs.WellFormed.{IsWellFormed, history_in}
use Rattle.mvcc_cursor.proofs.ListLaws.{find-filter}
use Rattle.mvcc_cursor.proofs.OrderLaws.{below-record, not-before-own}
use Rattle.intent_resolve.specs.Resolve.{Update, is_of, of_update}
use Rattle.intent_resolve.specs.Resolved.{own_intents}
use Rattle.intent_resolve.specs.views.Walked.{own_from, is_past_last, is_key_below, StandsStored, StandsAtOwn, HasCome}
use Rattle.intent_resolve.proofs.LookLaws.{own_of, none_of, key-points}

-- ---- the order of keys

-- a key is at or below itself
le-itself : (a : Key) → is_at_or_below a a ≡ true
le-itself a = ap is_le (tied_itself key_cmp-total a)

-- the same key is the one that ties
same-tied : (key x : Key) → is_same_key x key ≡ is_eq (key_cmp key x)
same-tied key x = by (is_same_key x key) refl (key_cmp key x) refl
  where
    by : (s : Bool) → is_same_key x key ≡ s → (o : Ordering) → key_cmp key x ≡ o → s ≡ is_eq o
    by true same o e = sym (ap is_eq (tied_itself key_cmp-total key)) ∙ ap (λ y. is_eq (key_cmp key y)) (sym (same_key_is x key same)) ∙ ap is_eq e
    by false same Less e = refl
    by false same Greater e = refl
    by false same Equal e = sym same ∙ ap (λ y. is_same_key x y) (key_cmp-IsAntisymmetric key x e) ∙ same_key x

-- each key at or above one that passes passes
abbrev pub IsUpwards : (Key → Bool) → Type 0
IsUpwards test = (a b : Key) → test a ≡ true → is_at_or_below a b ≡ true → test b ≡ true

-- as those at or above a key
from-upwards : (key : Key) → IsUpwards (is_at_or_below key)
from-upwards key a b up le = le_trans key a b up le

-- and those above it
above-upwards : (key : Key) → IsUpwards (is_below key)
above-upwards key a b up le = at_or_above key b ∙ ap not (by (is_at_or_below b key) refl)
  where
    by : (t : Bool) → is_at_or_below b key ≡ t → t ≡ false
    by false e = refl
    by true e = let no : is_at_or_below a key ≡ false = below-means key a up in let yes : is_at_or_below a key ≡ true = le_trans a b key le e in absurd cc

-- ---- the first key that passes

-- at or above the key, where there is one
abbrev is_from : Option Key → Key → Bool
is_from None x = false
is_from (Some k) x = is_at_or_below k x

-- the key of the first point that passes
abbrev first_passing : (Key → Bool) → List Point → Option Key
first_passing test points = key_in (find (λ p. test p.name.key) points)

-- what is found passes
found-passes : (test : Point → Bool) (points : List Point) (p : Point) → find test points ≡ Some p → test p ≡ true
found-passes test points p e = All-at_first (λ q. test q ≡ true) (filter test points) p (all_pass test points) (sym (find-filter test points) ∙ e)

-- a point before another has no key above the other's
keys-rise : (p q : Point) → name_cmp p.name q.name ≡ Less → is_at_or_below p.name.key q.name.key ≡ true
keys-rise p q less = not_below_is q.name.key p.name.key (sym (below-record p.name.key q) ∙ not-before-own p q less)

-- of points in order those that pass are those from the first that passes on
from-first : (test : Key → Bool) → IsUpwards test → (points : List Point) → IsStrictlySortedBy (λ p q. name_cmp p.name q.name) points
    → AllByRecursion (λ p. test p.name.key ≡ is_from (first_passing test points) p.name.key) points
unfolding IsStrictlySortedBy
from-first test up [] sorted = tt
from-first test up (p ∷ ps) sorted = by (test p.name.key) refl (from-first test up ps sorted.1)
  where
    not-from : (o : Option Point) → find (λ q. test q.name.key) ps ≡ o → test p.name.key ≡ false → is_from (key_in o) p.name.key ≡ false
    not-from None e fails = refl
    not-from (Some q) e fails = lower (is_at_or_below q.name.key p.name.key) refl
      where
        lower : (t : Bool) → is_at_or_below q.name.key p.name.key ≡ t → t ≡ false
        lower false le = refl
        lower true le = let passes : test p.name.key ≡ true = up q.name.key p.name.key (found-passes (λ r. test r.name.key) ps q e) le in absurd cc

    by : (t : Bool) → test p.name.key ≡ t → AllByRecursion (λ q. test q.name.key ≡ is_from (first_passing test ps) q.name.key) ps
        → AllByRecursion (λ q. test q.name.key ≡ is_from (key_in (cond t (Some p) (find (λ r. test r.name.key) ps))) q.name.key) (p ∷ ps)
    by true passes rest = (
      passes ∙ sym (le-itself p.name.key),
      All-weaker (λ q. name_cmp p.name q.name ≡ Less) (λ q. test q.name.key ≡ is_at_or_below p.name.key q.name.key) ps
          (λ q less. up p.name.key q.name.key passes (keys-rise p q less) ∙ sym (keys-rise p q less)) sorted.0,
    )
    by false fails rest = (fails ∙ sym (not-from (find (λ q. test q.name.key) ps) refl fails), rest)

-- a point that is found is stored under its key
found-here : (test : Point → Bool) (points : List Point) (p : Point) → find test points ≡ Some p → is_some (first (points_of p.name.key points)) ≡ true
unfolding points_of
found-here test points p e = by (first (filter (is_of_key p.name.key) points)) refl
  where
    by : (o : Option Point) → first (filter (is_of_key p.name.key) points) ≡ o → is_some o ≡ true
    by (Some q) is = refl
    by None is =
        let no : is_same_key p.name.key p.name.key ≡ false =
        subst (λ o. IfSome o (λ q. is_of_key p.name.key q ≡ false)) e (find-holds (λ q. is_of_key p.name.key q ≡ false) test points (none_first (is_of_key p.name.key) points is)) in
        let yes : is_same_key p.name.key p.name.key ≡ true = same_key p.name.key in absurd cc

-- the first of a key's points has the key
first-own : (key : Key) (points : List Point) → is_some (first (points_of key points)) ≡ true → key_in (first (points_of key points)) ≡ Some key
unfolding points_of
first-own key points some = by (first (filter (is_of_key key) points)) some (first-some (λ p. is_of_key key p ≡ true) (filter (is_of_key key) points) (all_pass (is_of_key key) points))
  where
    by : (o : Option Point) → is_some o ≡ true → IfSome o (λ p. is_of_key key p ≡ true) → key_in o ≡ Some key
    by None some own = absurd cc
    by (Some p) some own = ap Some (same_key_is p.name.key key own)

-- ---- where the cursor stands

-- it stands at a key that is stored, or past the last
stands-past : (s : Standing) (o : Option Point) → ((p : Point) → o ≡ Some p → is_some (first (points_of p.name.key (stored s))) ≡ true) → StandsStored (at_place (or_past (key_in o)) s)
stands-past s None f = record { fresh = refl; there = λ e. absurd cc }
stands-past s (Some p) f = record { fresh = refl; there = λ e. f p refl }

-- so it does after a seek
pub seek-stands : (s new : Standing) (key : Key) → new ≡ at_place (or_past (key_from key (stored s))) s → StandsStored new
seek-stands s new key e =
    subst StandsStored (sym e) (stands-past s (find (λ p. is_at_or_below key p.name.key) (stored s)) (λ p is. found-here (λ q. is_at_or_below key q.name.key) (stored s) p is))

-- and when it has gone on
pub next-stands : (s new : Standing) → new ≡ at_place (next_place s.at (stored s)) s → StandsStored new
next-stands s new e = subst StandsStored (sym e) (by s.at)
  where
    at-first : (points : List Point) (p : Point) → first points ≡ Some p → is_some (first (points_of p.name.key points)) ≡ true
    at-first [] p is = absurd cc
    at-first (q ∷ qs) p is = found-here (λ r. true) (q ∷ qs) p is

    by : (at : Place) → StandsStored (at_place (next_place at (stored s)) s)
    by BeforeFirst = stands-past s (first (stored s)) (at-first (stored s))
    by (AtKey key) = stands-past s (find (λ p. is_below key p.name.key) (stored s)) (λ p is. found-here (λ q. is_below key q.name.key) (stored s) p is)
    by PastLast = record { fresh = refl; there = λ e. absurd cc }

-- ---- the intents ahead

-- an intent, if there is one, before others
abbrev in_front : Option Intent → List Intent → List Intent
in_front None is = is
in_front (Some i) is = i ∷ is

-- of intents in order those from a key on are the key's own and those above the key
own-and-above : (key : Key) (is : List Intent) → IsStrictlySortedBy intent_cmp is
    → filter (λ i. is_at_or_below key i.key) is ≡ in_front (first (filter (λ i. is_same_key i.key key) is)) (filter (λ i. is_below key i.key) is)
unfolding IsStrictlySortedBy
own-and-above key [] sorted = refl
own-and-above key (i ∷ is) sorted = by (key_cmp key i.key) refl (own-and-above key is sorted.1)
  where
    -- a key above the first of them
    beyond : (o : Ordering) → key_cmp key i.key ≡ o → is_le o ≡ true → AllByRecursion (λ j. key_cmp key j.key ≡ Less) is
    beyond Less e le = All-weaker (λ j. intent_cmp i j ≡ Less) (λ j. key_cmp key j.key ≡ Less) is (λ j less. key_cmp-total.trans key i.key j.key e less) sorted.0
    beyond Equal e le = All-weaker (λ j. intent_cmp i j ≡ Less) (λ j. key_cmp key j.key ≡ Less) is (λ j less. key_cmp-total.congr key i.key j.key e ∙ less) sorted.0
    beyond Greater e le = absurd cc

    by : (o : Ordering) → key_cmp key i.key ≡ o
        → filter (λ j. is_at_or_below key j.key) is ≡ in_front (first (filter (λ j. is_same_key j.key key) is)) (filter (λ j. is_below key j.key) is)
        → cond (is_le (key_cmp key i.key)) (i ∷ filter (λ j. is_at_or_below key j.key) is) (filter (λ j. is_at_or_below key j.key) is)
        ≡ in_front (first (cond (is_same_key i.key key) (i ∷ filter (λ j. is_same_key j.key key) is) (filter (λ j. is_same_key j.key key) is)))
        (cond (is_lt (key_cmp key i.key)) (i ∷ filter (λ j. is_below key j.key) is) (filter (λ j. is_below key j.key) is))
    by Less e rest = rw (e, same-tied key i.key ∙ ap is_eq e)
        (ap (λ js. i ∷ js) rest
        ∙ ap (λ js. i ∷ in_front (first js) (filter (λ j. is_below key j.key) is)) none
        ∙ sym (ap (λ js. in_front (first js) (i ∷ filter (λ j. is_below key j.key) is)) none))
      where
        none : filter (λ j. is_same_key j.key key) is ≡ []
        none = filter-none (λ j. is_same_key j.key key) is (All-weaker (λ j. key_cmp key j.key ≡ Less) (λ j. is_same_key j.key key ≡ false) is (λ j less. same-tied key j.key ∙ ap is_eq less) (beyond Less e refl))
    by Equal e rest = rw (e, same-tied key i.key ∙ ap is_eq e)
        (ap (λ js. i ∷ js) (filter-same (λ j. is_at_or_below key j.key) (λ j. is_below key j.key) is
        (All-weaker (λ j. key_cmp key j.key ≡ Less) (λ j. is_at_or_below key j.key ≡ is_below key j.key) is (λ j less. ap is_le less ∙ sym (ap is_lt less)) (beyond Equal e refl))))
    by Greater e rest = rw (e, same-tied key i.key ∙ ap is_eq e) rest

-- an intent in front of those that pass
front-filtered : (test : Intent → Bool) (o : Option Intent) (is : List Intent) → filter test (in_front o is) ≡ in_front (first (filter test (in_front o []))) (filter test is)
front-filtered test None is = refl
front-filtered test (Some i) is = by (test i)
  where
    by : (b : Bool) → cond b (i ∷ filter test is) (filter test is) ≡ in_front (first (cond b (i ∷ []) [])) (filter test is)
    by true = refl
    by false = refl

-- the transaction's intents below end whose keys pass
abbrev passing : Update → (Key → Bool) → Key → History → List Intent
passing u test end h = filter (is_of u) (filter (λ i. test i.key && is_below i.key end) h.intents)

module _ (store : List Run) (formed : IsWellFormed (history_in store) store) where
  abbrev h : History
  h = history_in store

  -- what holds of the keys of all points holds of those of all intents
  each-intent : (P : Key → Type 0) → AllByRecursion (λ p. P p.name.key) (shown store) → AllByRecursion (λ i. P i.key) h.intents
  unfolding points_of
  each-intent P all = All-weaker (λ i. intent_of i.key h ≡ Some i) (λ i. P i.key) h.intents own (intents_there h.intents formed.valid.intents_in_order)
    where
      own : (i : Intent) → intent_of i.key h ≡ Some i → P i.key
      own i is = (subst (AllByRecursion (λ p. P p.name.key)) (key-points store i.key i formed is) (All-filter (λ p. P p.name.key) (is_of_key i.key) (shown store) all)).0

  -- those that pass are those from the first stored key that passes on
  passing-first : (u : Update) (test : Key → Bool) → IsUpwards test → (end : Key) → passing u test end h ≡ own_from u (or_past (first_passing test (shown store))) end h
  passing-first u test up end =
      ap (filter (is_of u)) (filter-same (λ i. test i.key && is_below i.key end) (λ i. is_from (first_passing test (shown store)) i.key && is_below i.key end) h.intents
      (All-weaker (λ i. test i.key ≡ is_from (first_passing test (shown store)) i.key) _ h.intents (λ i e. ap (λ b. b && is_below i.key end) e)
      (each-intent (λ x. test x ≡ is_from (first_passing test (shown store)) x) (from-first test up (shown store) (sorted-shown (points_in store))))))
      ∙ by (first_passing test (shown store))
    where
      by : (o : Option Key) → filter (is_of u) (filter (λ i. is_from o i.key && is_below i.key end) h.intents) ≡ own_from u (or_past o) end h
      by None = ap (filter (is_of u)) (filter-none (λ i. false) h.intents (All-every (λ i. false ≡ false) h.intents (λ i. refl)))
      by (Some k) = refl

  -- those from a key on are the key's own and those above it
  from-key : (u : Update) (key end : Key) → own_intents u key end h ≡ filter (is_of u) (filter (λ i. is_below i.key end) (in_front (intent_of key h) (filter (λ i. is_below key i.key) h.intents)))
  from-key u key end =
      ap (filter (is_of u)) (sym (filter-twice (λ i. is_below i.key end) (λ i. is_at_or_below key i.key) (λ i. is_within key end i.key) h.intents (λ i. refl)))
      ∙ ap (λ is. filter (is_of u) (filter (λ i. is_below i.key end) is)) (own-and-above key h.intents formed.valid.intents_in_order)

  above-key : (u : Update) (key end : Key) → filter (is_of u) (filter (λ i. is_below i.key end) (filter (λ i. is_below key i.key) h.intents)) ≡ passing u (is_below key) end h
  above-key u key end = ap (filter (is_of u)) (filter-twice (λ i. is_below i.key end) (λ i. is_below key i.key) (λ i. is_below key i.key && is_below i.key end) h.intents (λ i. refl))

  -- where the key has an intent of the transaction below end it comes first
  pub own-first : (u : Update) (key end : Key) (i : Intent) → intent_of key h ≡ Some i → is_of u i ≡ true → is_below key end ≡ true → own_intents u key end h ≡ i ∷ own_from u (next_place (AtKey key) (shown store)) end h
  own-first u key end i is own below =
      from-key u key end
      ∙ ap (λ o. filter (is_of u) (filter (λ j. is_below j.key end) (in_front o (filter (λ j. is_below key j.key) h.intents)))) is
      ∙ ap (λ b. filter (is_of u) (cond b (i ∷ rest) rest)) (ap (λ k. is_below k end) (intent_of-key key h i is) ∙ below)
      ∙ ap (λ b. cond b (i ∷ filter (is_of u) rest) (filter (is_of u) rest)) own
      ∙ ap (λ is. i ∷ is) (above-key u key end ∙ passing-first u (is_below key) (above-upwards key) end)
    where
      rest : List Intent
      rest = filter (λ j. is_below j.key end) (filter (λ j. is_below key j.key) h.intents)

  -- and where it has none they are those of the next stored keys
  pub own-none_first : (u : Update) (key end : Key) → of_update u (intent_of key h) ≡ None → own_intents u key end h ≡ own_from u (next_place (AtKey key) (shown store)) end h
  own-none_first u key end none = from-key u key end ∙ by (intent_of key h) none ∙ above-key u key end ∙ passing-first u (is_below key) (above-upwards key) end
    where
      rest : List Intent
      rest = filter (λ j. is_below j.key end) (filter (λ j. is_below key j.key) h.intents)

      by : (o : Option Intent) → of_update u o ≡ None → filter (is_of u) (filter (λ j. is_below j.key end) (in_front o (filter (λ j. is_below key j.key) h.intents))) ≡ filter (is_of u) rest
      by None e = refl
      by (Some i) e = lies (is_below i.key end)
        where
          not-own : (b : Bool) → cond b (Some i) None ≡ None → b ≡ false
          not-own true f = absurd cc
          not-own false f = refl

          lies : (b : Bool) → filter (is_of u) (cond b (i ∷ rest) rest) ≡ filter (is_of u) rest
          lies false = refl
          lies true = ap (λ b. cond b (i ∷ filter (is_of u) rest) (filter (is_of u) rest)) (not-own (is_of u i) e)

  -- at a key that is not below end there is none
  pub none-behind : (u : Update) (key end : Key) → is_below key end ≡ false → own_intents u key end h ≡ []
  none-behind u key end past = ap (filter (is_of u)) (filter-none (λ i. is_within key end i.key) h.intents (All-every (λ i. is_within key end i.key ≡ false) h.intents (λ i. by i.key (is_at_or_below key i.key) refl)))
    where
      by : (x : Key) (t : Bool) → is_at_or_below key x ≡ t → (t && is_below x end) ≡ false
      by x false e = refl
      by x true e = at_or_above x end ∙ ap not (le_trans end key x (not_below_is key end past) e)

-- ---- the walk

-- after a seek the intents ahead are those of the span
pub seek-own : (u : Update) (start end : Key) (s new : Standing) → IsWellFormed (history_in s.store) s.store → length start ≤ 4097
    → new ≡ at_place (or_past (key_from (sought_key start) (stored s))) s → own_from u new.at end (history_in s.store) ≡ own_intents u start end (history_in s.store)
seek-own u start end s new formed short e =
    ap (λ x. own_from u x.at end (history_in s.store)) e
    ∙ ap (λ k. own_from u (or_past (key_from k (stored s))) end (history_in s.store)) (take_all 4097 start short)
    ∙ sym (passing-first s.store formed u (is_at_or_below start) (from-upwards start) end)

-- at one of them it is the first, and the others are ahead when the cursor has gone on
pub next-own : (u : Update) (end : Key) (s new : Standing) (i : Intent) → IsWellFormed (history_in s.store) s.store → StandsAtOwn u end s → (told s).intent ≡ Some i
    → new ≡ at_place (next_place s.at (stored s)) s → own_from u s.at end (history_in s.store) ≡ i ∷ own_from u new.at end (history_in s.store)
next-own u end s new i formed at_own is e =
    ap (λ at. own_from u at end (history_in s.store)) at_own.at_key
    ∙ own-first s.store formed u at_own.key end i (sym (ap (λ at. (told (record s { at = at })).intent) at_own.at_key) ∙ is) own at_own.below
    ∙ ap (λ at. i ∷ own_from u at end (history_in s.store)) (sym (ap (λ x. x.at) e ∙ ap (λ at. next_place at (stored s)) at_own.at_key))
  where
    own : is_of u i ≡ true
    own = let o = own_of u (told s).intent at_own.own in let same : o.intent ≡ i = cc in subst (λ j. is_of u j ≡ true) same o.own

-- a cursor at a stored key shows it
pub shown-key : (s : Standing) (key : Key) → StandsStored s → s.at ≡ AtKey key → key_in (first (here s)) ≡ Some key
shown-key s key stands at =
    ap (λ p. key_in (first (points_at p (stored s)))) at
    ∙ first-own key (stored s) (sym (ap (λ p. is_some (first (points_at p (stored s)))) at) ∙ stands.there (ap is_past_last at))

-- where it shows no key below end there is no intent ahead
pub none-ahead : (u : Update) (end : Key) (s : Standing) → IsWellFormed (history_in s.store) s.store → StandsStored s → is_key_below end (key_in (first (here s))) ≡ false
    → own_from u s.at end (history_in s.store) ≡ []
none-ahead u end s formed stands none = by s.at refl
  where
    by : (at : Place) → s.at ≡ at → own_from u at end (history_in s.store) ≡ []
    by BeforeFirst is =
        let there : is_some (first (here s)) ≡ true = stands.there (ap is_past_last is) in
        let nothing : is_some (first (here s)) ≡ false = ap (λ p. is_some (first (points_at p (stored s)))) is in absurd cc
    by (AtKey key) is = none-behind s.store formed u key end (sym (ap (is_key_below end) (shown-key s key stands is)) ∙ none)
    by PastLast is = refl

-- it stands at a key below end
pub record StandsBelow (end : Key) (s : Standing) : Type 0 where
  pub key : Key
  pub at_key : s.at ≡ AtKey key
  pub below : is_below key end ≡ true

-- where it shows one, it stands there
pub stands-below : (end : Key) (s : Standing) → StandsStored s → is_key_below end (key_in (first (here s))) ≡ true → StandsBelow end s
stands-below end s stands some = by s.at refl
  where
    nothing : (at : Place) → s.at ≡ at → is_key_below end (key_in (first (points_at at (stored s)))) ≡ false → StandsBelow end s
    nothing at is none = let no : is_key_below end (key_in (first (here s))) ≡ false = ap (λ p. is_key_below end (key_in (first (points_at p (stored s))))) is ∙ none in absurd cc

    by : (at : Place) → s.at ≡ at → StandsBelow end s
    by BeforeFirst is = nothing BeforeFirst is refl
    by (AtKey key) is = record { key = key; at_key = is; below = sym (ap (is_key_below end) (shown-key s key stands is)) ∙ some }
    by PastLast is = nothing PastLast is refl

-- how many points stand from the place on
abbrev pub points_ahead : Place → List Point → ℕ
points_ahead BeforeFirst points = length points
points_ahead (AtKey key) points = length (filter (λ p. is_at_or_below key p.name.key) points)
points_ahead PastLast points = 0

-- the points above a key stand from the next stored key on
above-ahead : (key : Key) (points : List Point) → IsStrictlySortedBy (λ p q. name_cmp p.name q.name) points
    → length (filter (λ p. is_below key p.name.key) points) ≡ points_ahead (next_place (AtKey key) points) points
above-ahead key points sorted =
    ap length (filter-same (λ p. is_below key p.name.key) (λ p. is_from (first_passing (is_below key) points) p.name.key) points (from-first (is_below key) (above-upwards key) points sorted))
    ∙ by (first_passing (is_below key) points)
  where
    by : (o : Option Key) → length (filter (λ p. is_from o p.name.key) points) ≡ points_ahead (or_past o) points
    by None = ap length (filter-none (λ p. false) points (All-every (λ p. false ≡ false) points (λ p. refl)))
    by (Some k) = refl

-- those from a key on are the key's own and those above it
points-parted : (key : Key) (points : List Point) → length (filter (λ p. is_below key p.name.key) points) + length (points_of key points) ≡ length (filter (λ p. is_at_or_below key p.name.key) points)
unfolding points_of
points-parted key points =
    let from : List Point = filter (λ p. is_at_or_below key p.name.key) points in
    let above : filter (λ p. is_below key p.name.key) from ≡ filter (λ p. is_below key p.name.key) points =
    filter-follows (λ p. is_below key p.name.key) (λ p. is_at_or_below key p.name.key) points (λ p. lt-le (key_cmp key p.name.key)) in
    let own : filter (λ p. not (is_below key p.name.key)) from ≡ filter (is_of_key key) points =
    filter-twice (λ p. not (is_below key p.name.key)) (λ p. is_at_or_below key p.name.key) (is_of_key key) points (λ p. tied (key_cmp key p.name.key) ∙ sym (same-tied key p.name.key)) in
    ap (λ ps. length ps + length (filter (is_of_key key) points)) (sym above)
    ∙ ap (λ ps. length (filter (λ p. is_below key p.name.key) from) + length ps) (sym own)
    ∙ length-filter_both (λ p. is_below key p.name.key) (λ p. not (is_below key p.name.key)) (λ p. refl) from
  where
    lt-le : (o : Ordering) → is_lt o ≡ true → is_le o ≡ true
    lt-le Less e = refl
    lt-le Equal e = absurd cc
    lt-le Greater e = absurd cc

    tied : (o : Ordering) → (is_le o && not (is_lt o)) ≡ is_eq o
    tied Less = refl
    tied Equal = refl
    tied Greater = refl

-- there is one at least where the first is there
some-length : (points : List Point) → is_some (first points) ≡ true → 0 < length points
some-length [] e = absurd cc
some-length (p ∷ ps) e = omega arith

-- a cursor that goes on from a stored key has fewer points ahead
pub fewer-ahead : (key : Key) (s new : Standing) → StandsStored s → s.at ≡ AtKey key → new ≡ at_place (next_place s.at (stored s)) s → points_ahead new.at (stored new) < points_ahead s.at (stored s)
fewer-ahead key s new stands at e =
    let here_some : 0 < length (points_of key (stored s)) = some-length (points_of key (stored s)) (sym (ap (λ p. is_some (first (points_at p (stored s)))) at) ∙ stands.there (ap is_past_last at)) in
    let before : points_ahead s.at (stored s) ≡ length (filter (λ p. is_at_or_below key p.name.key) (stored s)) = ap (λ p. points_ahead p (stored s)) at in
    let after : points_ahead new.at (stored new) ≡ length (filter (λ p. is_below key p.name.key) (stored s)) =
    ap (λ x. points_ahead x.at (stored x)) e ∙ ap (λ p. points_ahead (next_place p (stored s)) (stored s)) at ∙ sym (above-ahead key (stored s) (sorted-shown (points_in s.store))) in
    omega (arith, here_some, before, after, points-parted key (stored s))

-- the cursor has passed no intent of the transaction
pub record IsComing (u : Update) (end : Key) (old s : Standing) : Type 0 where
  pub over : s.store ≡ old.store
  pub stands : StandsStored s
  pub left : own_from u s.at end (history_in old.store) ≡ own_from u old.at end (history_in old.store)

-- the step of the walk: it has passed none, and has less ahead
pub record HasStepped (u : Update) (end : Key) (old s new : Standing) : Type 0 where
  pub coming : IsComing u end old new
  pub less : points_ahead new.at (stored new) < points_ahead s.at (stored s)

module _ (u : Update) (end : Key) (old s : Standing) (formed : IsWellFormed (history_in old.store) old.store) (c : IsComing u end old s) where
  formed-here : IsWellFormed (history_in s.store) s.store
  formed-here = subst (λ store. IsWellFormed (history_in store) store) (sym c.over) formed

  -- past a key with no intent of the transaction it goes on
  pub coming-on : (new : Standing) → is_key_below end (key_in (first (here s))) ≡ true → is_some (of_update u (told s).intent) ≡ false → new ≡ at_place (next_place s.at (stored s)) s → HasStepped u end old s new
  coming-on new some others e =
      let b = stands-below end s c.stands some in
      record {
        coming = record {
          over = ap (λ x. x.store) e ∙ c.over;
          stands = next-stands s new e;
          left = ap (λ at. own_from u at end (history_in old.store)) (ap (λ x. x.at) e ∙ ap (λ at. next_place at (stored s)) b.at_key)
              ∙ ap (λ store. own_from u (next_place (AtKey b.key) (shown s.store)) end (history_in store)) (sym c.over)
              ∙ sym (own-none_first s.store formed-here u b.key end (sym (ap (λ at. of_update u (told (record s { at = at })).intent) b.at_key) ∙ none_of u (told s).intent others))
              ∙ ap (λ store. own_intents u b.key end (history_in store)) c.over
              ∙ ap (λ at. own_from u at end (history_in old.store)) (sym b.at_key)
              ∙ c.left;
        };
        less = fewer-ahead b.key s new c.stands b.at_key e;
      }

  -- at one it has come
  pub coming-found : is_key_below end (key_in (first (here s))) ≡ true → is_some (of_update u (told s).intent) ≡ true → HasCome u end old s true
  coming-found some own =
      let b = stands-below end s c.stands some in
      record {
        over = c.over;
        stands = c.stands;
        left = c.left;
        at_own = λ e. record { key = b.key; at_key = b.at_key; own = own; below = b.below };
        none = λ e. absurd cc;
      }

  -- without a key below end there is none
  pub coming-ends : is_key_below end (key_in (first (here s))) ≡ false → HasCome u end old s false
  coming-ends none = record {
    over = c.over;
    stands = c.stands;
    left = c.left;
    at_own = λ e. absurd cc;
    none = λ e. sym c.left ∙ ap (λ store. own_from u s.at end (history_in store)) (sym c.over) ∙ none-ahead u end s formed-here c.stands none;
  }
