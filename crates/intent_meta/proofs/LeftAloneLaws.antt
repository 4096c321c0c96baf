-- What changes of a history's versions and tombstones leave alone.
use Rattle.std.proofs.Common.{◌≡◌, Bool, true, false, cond, List, ◌++◌, refl, sym, ap, subst, ◌∙◌}
use Rattle.std.specs.Prelude.{◌&&◌, not, map, filter}
use Rattle.std.proofs.lemmas.Bool.{not-true, not_from_false}
use Rattle.mvcc_key.specs.Lists.{in_order, first}
use Rattle.mvcc_key.specs.Order.{Timestamp, Key, is_below, is_same_key, is_within}
use Rattle.mvcc_key.specs.History.{Version, History}
use Rattle.mvcc_key.specs.Items.{item_cmp, version_item, tombstone_item, tombstones_over, items}
use Rattle.mvcc_key.specs.Fragments.{take_out}
use Rattle.mvcc_key.specs.Pieces.{stack_without}
use Rattle.mvcc_key.proofs.StackLaws.{same_key_is}
use Rattle.mvcc_key.proofs.StackChangeLaws.{tombstones_over-take_out}
use Rattle.mvcc_key.proofs.FilterLaws.{filter-every, filter-follows}
use Rattle.intent_meta.specs.LeftAlone.{LeavesOthers, LeavesOutside, LeavesKey, OthersAreEach}
use Rattle.intent_meta.specs.Within.{AgreeOn}

-- the elements of a touched key are among the touched ones
touched_of : {X : Type 0} (touched : Key → Bool) (of : X → Key) (key : Key) (xs : List X) → touched key ≡ true
    → filter (λ x. is_same_key (of x) key) (filter (λ x. touched (of x)) xs) ≡ filter (λ x. is_same_key (of x) key) xs
touched_of touched of key xs here =
    filter-follows (λ x. is_same_key (of x) key) (λ x. touched (of x)) xs
    (λ x same. subst (λ k. touched k ≡ true) (sym (same_key_is (of x) key same)) here)

-- histories that agree on some keys agree on each of them
pub agree_at : (touched : Key → Bool) (h k : History) (key : Key) → AgreeOn touched h k → touched key ≡ true → LeavesKey key k h
agree_at touched h k key a here = record {
  versions =
      sym (touched_of touched (λ v. v.key) key h.versions here)
      ∙ ap (filter (λ v. is_same_key v.key key)) a.versions
      ∙ touched_of touched (λ v. v.key) key k.versions here;
  intent =
      ap first (
      sym (touched_of touched (λ i. i.key) key h.intents here)
      ∙ ap (filter (λ i. is_same_key i.key key)) a.intents
      ∙ touched_of touched (λ i. i.key) key k.intents here
      );
  stack = a.stacks key here;
}

-- where the others are left, histories agree on them
pub leaves-agree : (touched : Key → Bool) (old new : History) → LeavesOthers touched old new → AgreeOn (λ key. not (touched key)) new old
leaves-agree touched old new l = record { versions = l.versions; intents = l.intents; stacks = λ key out. l.stacks key (not-true (touched key) out) }

-- what leaves the keys that are not touched leaves each of them
pub others_are_each : OthersAreEach
others_are_each touched old new key l free = agree_at (λ k. not (touched k)) new old key (leaves-agree touched old new l) (not_from_false (touched key) free)

-- a key that is left has the items that it had
pub items-left : (key : Key) (old new : History) → LeavesKey key old new → items new key ≡ items old key
unfolding items
items-left key old new l = λ i. in_order item_cmp (map version_item (l.versions i) ++ map tombstone_item (l.stack i))

-- fewer versions leave the keys of which none go
pub fewer_versions-leave : (touched : Key → Bool) (h : History) (test : Version → Bool) → ((v : Version) → touched v.key ≡ false → test v ≡ true)
    → LeavesOthers touched h (record h { versions = filter test h.versions })
fewer_versions-leave touched h test stay = record {
  versions = filter-follows (λ v. not (touched v.key)) test h.versions (λ v free. stay v (not-true (touched v.key) free));
  intents = refl;
  stacks = λ key free. refl;
}

-- a span taken out of some of the tombstones takes their timestamps from its keys
pub stacks-take_out : (h : History) (start end : Key) (test : Timestamp → Bool) (key : Key) → is_below start end ≡ true
    → tombstones_over (take_out start end (λ t. test t.ts) h.tombstones) key ≡ stack_without start end test key (tombstones_over h.tombstones key)
stacks-take_out h start end test key span =
    tombstones_over-take_out key start end test h.tombstones span ∙ by (is_within start end key) (tombstones_over h.tombstones key)
  where
    by : (w : Bool) (stack : List Timestamp) → filter (λ s. not (w && test s)) stack ≡ cond w (filter (λ s. not (test s)) stack) stack
    by true stack = refl
    by false stack = filter-every (λ s. true) stack (λ s. refl)

-- a span taken out of some of the tombstones leaves the keys outside
pub take_out-leaves : (h : History) (start end : Key) (test : Timestamp → Bool) → is_below start end ≡ true
    → LeavesOutside start end h (record h { tombstones = take_out start end (λ t. test t.ts) h.tombstones })
take_out-leaves h start end test span = record {
  versions = refl;
  intents = refl;
  stacks = λ key free.
      stacks-take_out h start end test key span
      ∙ ap (λ w. cond w (filter (λ s. not (test s)) (tombstones_over h.tombstones key)) (tombstones_over h.tombstones key)) free;
}

-- what is left by one change and then by another is left by both
pub left-then : (touched : Key → Bool) (first second third : History) → LeavesOthers touched first second → LeavesOthers touched second third → LeavesOthers touched first third
left-then touched first second third a b = record {
  versions = b.versions ∙ a.versions;
  intents = b.intents ∙ a.intents;
  stacks = λ key free. b.stacks key free ∙ a.stacks key free;
}

-- where more keys are touched, those that are not are left too
pub leaves-fewer : (some more : Key → Bool) (old new : History) → ((key : Key) → some key ≡ true → more key ≡ true) → LeavesOthers some old new → LeavesOthers more old new
leaves-fewer some more old new wider l = record {
  versions =
      sym (filter-follows (λ v. not (more v.key)) (λ v. not (some v.key)) new.versions (λ v. free v.key))
      ∙ ap (filter (λ v. not (more v.key))) l.versions
      ∙ filter-follows (λ v. not (more v.key)) (λ v. not (some v.key)) old.versions (λ v. free v.key);
  intents =
      sym (filter-follows (λ i. not (more i.key)) (λ i. not (some i.key)) new.intents (λ i. free i.key))
      ∙ ap (filter (λ i. not (more i.key))) l.intents
      ∙ filter-follows (λ i. not (more i.key)) (λ i. not (some i.key)) old.intents (λ i. free i.key);
  stacks = λ key out. l.stacks key (not-true (some key) (free key (not_from_false (more key) out)));
}
  where
    free : (key : Key) → not (more key) ≡ true → not (some key) ≡ true
    free key = by (some key) (more key) (wider key)
      where
        by : (s m : Bool) → (s ≡ true → m ≡ true) → not m ≡ true → not s ≡ true
        by true true w n = n
        by true false w n = let e : false ≡ true = w refl in absurd cc
        by false m w n = refl
