-- The top of a key of a valid history, and what changes in front of its newest committed version.
use Rattle.std.specs.Prelude.{◌≡◌, List, [], ◌∷◌, ◌++◌, length, map, filter, option_map, option_to_list}
use Rattle.std.specs.List.Sorted.{IsStrictlySortedBy}
use Rattle.std.proofs.Common.{refl, sym, subst, ◌∙◌, arith}
use Rattle.std.proofs.lemmas.List.{map-append}
use Rattle.mvcc_key.specs.Lists.{first}
use Rattle.mvcc_key.specs.Order.{newer_first, Key}
use Rattle.mvcc_key.specs.History.{Version, History, versions_of, intent_of}
use Rattle.mvcc_key.specs.Items.{covers}
use Rattle.mvcc_key.specs.Fragments.{fragments, stack_at}
use Rattle.mvcc_key.proofs.StackLaws.{stack_at-fragments}
use Rattle.mvcc_key.proofs.SortedLaws.{in_order-sorted}
use Rattle.mvcc_key.proofs.OrderLaws.{newer_first-total}
use Rattle.stat_delta.specs.Shapes.{key_change, top_shape, version_shape, intent_shape}
use Rattle.stat_delta.proofs.ShortLaws.{tops-short}
use Rattle.stat_delta.proofs.TopLaws.{stored_change-top}
use Rattle.key_top.specs.Laws.{TopsAreShort, FrontsChange}
use Rattle.key_top.specs.Top.{versions_in}

-- the stack over a key is newest first
pub stack-sorted : (h : History) (key : Key) → IsStrictlySortedBy newer_first (stack_at (fragments h.tombstones) key)
stack-sorted h key =
    subst (IsStrictlySortedBy newer_first) (sym (stack_at-fragments h.tombstones key)) (in_order-sorted newer_first-total (map (λ t. t.ts) (filter (covers key) h.tombstones)))

-- the top of a key of a valid history is short
pub top-short : TopsAreShort
top-short h key valid short =
    let tops = tops-short h key valid in
    record { key = omega (arith, short); intent = tops.0; newest = tops.1; stack = stack-sorted h key }

-- the newest of versions without their bytes
newest-shapes : (vs : List Version) → map version_shape (option_to_list (first vs)) ≡ option_to_list (option_map version_shape (first vs))
newest-shapes [] = refl
newest-shapes (v ∷ vs) = refl

-- what comes in front of all the versions of a key changes the statistics of what is stored by what it changes for the key's top
pub front-change : FrontsChange
front-change now h h' key front f valid valid' others stands =
    let fs = fragments h.tombstones in
    let behind = versions_of key h in
    let newest = newest-shapes behind in
    let after : map version_shape (stands.new ++ option_to_list (first behind)) ≡ versions_in front ++ option_to_list (option_map version_shape (first behind)) =
    map-append version_shape stands.new (option_to_list (first behind)) ∙ λ i. stands.new_are i ++ newest i in
    sym (stored_change-top now h h' fs key [] stands.new behind f valid valid' others refl stands.versions_are
    ∙ λ i. key_change now (top_shape (length key) (stack_at fs key) (option_map intent_shape (intent_of key h)) (newest i))
    (top_shape (length key) (stack_at fs key) (stands.intent_is i) (after i)) f)
