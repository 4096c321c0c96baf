-- The operations that leaves hold, and their points.
use Rattle.std.proofs.Common.{◌≡◌, ℕ, zero, suc, ◌+◌, ◌<◌, ◌≤◌, List, [], ◌∷◌, ◌++◌, length, map, take, drop, get_or, refl, sym, ap, ap₂, subst, ◌∙◌, arith, inl, inr, append_assoc}
use Rattle.std.specs.Prelude.{◌≢◌, slice_get, Some, None, All, insert}
use Rattle.std.specs.declared.option.Option.{Option}
use Rattle.std.specs.Option.{option_map, option_and_then}
use Rattle.std.specs.List.{AllByRecursion}
use Rattle.std.specs.declared.cmp.Ordering.TheVariants.{Equal}
use Rattle.std.proofs.lemmas.Bool.{cases_order}
use Rattle.std.proofs.lemmas.Option.{slice_get-map, slice_get-get_or, get_or_from_slice_get}
use Rattle.std.proofs.lemmas.List.{length-map, length-append}
use Rattle.std.proofs.Math.Seq.{get_or-append_seam}
use Rattle.std.proofs.lemmas.List.Elements.{recursion_from_All, All-weaker, All-append, All-cons, All-take, All-drop}
use Rattle.mvcc_key.specs.Order.{Name, name_cmp}
use Rattle.mvcc_key.specs.KeyFormat.{name_of}
use Rattle.mvcc_key.specs.Encoded.{name_in, IsBytes}
use Rattle.mvcc_key.specs.views.AbbreviatedKey.{abbreviated_key, IsAbbreviatedKey}
use Rattle.mvcc_key.specs.Points.{Point, IsRising}
use Rattle.mvcc_key.specs.views.SeenPoint.{point_of, points_of}
use Rattle.mvcc_key.specs.declared.batch.PointOp.{PointOp}
use Rattle.mvcc_key.specs.Batches.{IsStorable, AreEntries}
use Rattle.mvcc_key.proofs.OrderLaws.{name_cmp-key}
use Rattle.mvcc_key.proofs.PointLaws.{slice_get-front}
use Rattle.mvcc_key.specs.Lists.{put_in_order, in_order}
use Rattle.mvcc_key.proofs.SortedLaws.{in_order-same, in_order-sorted}
use Rattle.mem_table.specs.views.Places.{op_cmp, newest_ops, no_op, listed, AreNumbersOf, IsStored, IsRangeBy}
use Rattle.mem_table.specs.views.Entries.{no_point, entry_at, abbreviated_at, numbered, AreBytes}
use Rattle.mem_table.specs.views.Slots.{Slots, numbers_in, keys_in, keys_of, HaveAbbreviatedKeys, IsIndexed}
use Rattle.mem_table.specs.views.Gaps.{place_of, IsGap}
use Rattle.mem_table.proofs.OrderedLaws.{each-at, each-front, each-last}
use Rattle.mem_table.proofs.NumberLaws.{each-back}
use Rattle.mem_table.proofs.StartLaws.{place-le, count-put}
use Rattle.mem_table.proofs.OneLaws.{one-known, one-new}
use Rattle.mem_table.proofs.PlaceLaws.{seen-range}
use Rattle.mem_table.proofs.EntryLaws.{op_cmp-total, sorted-entries, entries-one, entries-newest}

-- ---- the points of operations by their numbers

-- the entry with a number is its operation's point
pub entry-op : (ops : List PointOp) (n : ℕ) → point_of (get_or ops n no_op) ≡ entry_at (points_of ops) n
unfolding name_of
entry-op [] n = refl
entry-op (q ∷ qs) zero = refl
entry-op (q ∷ qs) (suc n) = entry-op qs n

-- the points of the operations with these numbers
pub points-listed : (ops : List PointOp) (ns : List ℕ) → points_of (listed ops ns) ≡ numbered (points_of ops) ns
points-listed ops [] = refl
points-listed ops (n ∷ ns) = ap₂ (λ (p : Point) (ps : List Point). p ∷ ps) (entry-op ops n) (points-listed ops ns)

-- as many as there are numbers
pub length-points : (ops : List PointOp) (ns : List ℕ) → length (points_of (listed ops ns)) ≡ length ns
length-points ops ns = length-map (listed ops ns) point_of ∙ length-map ns _

-- a number among them is one of an operation
pub number-known : (ops : List PointOp) (ns : List ℕ) (place number : ℕ) → AreNumbersOf ops ns → slice_get ns place ≡ Some number → number < length ops
number-known ops ns place number known is = each-at (λ n. n < length ops) ns place number (recursion_from_All (λ (n : ℕ). n < length ops) ns known) is

-- what stands at a place is the operation with the number there
pub op-listed : (ops : List PointOp) (ns : List ℕ) (place number : ℕ) → AreNumbersOf ops ns → slice_get ns place ≡ Some number
    → slice_get (listed ops ns) place ≡ slice_get ops number
op-listed ops ns place number known is =
    slice_get-map (λ n. get_or ops n no_op) ns place ∙ ap (option_map (λ n. get_or ops n no_op)) is
    ∙ sym (slice_get-get_or ops number no_op (number-known ops ns place number known is))

pub point-listed : (ops : List PointOp) (ns : List ℕ) (place number : ℕ) → AreNumbersOf ops ns → slice_get ns place ≡ Some number
    → slice_get (points_of (listed ops ns)) place ≡ slice_get (points_of ops) number
point-listed ops ns place number known is =
    slice_get-map point_of (listed ops ns) place ∙ ap (option_map point_of) (op-listed ops ns place number known is) ∙ sym (slice_get-map point_of ops number)

value_of_point : (o : Option PointOp) → option_and_then (λ op. op.value) o ≡ option_and_then (λ p. p.value) (option_map point_of o)
value_of_point (Some op) = refl
value_of_point None = refl

-- and so is its value
pub value-listed : (ops : List PointOp) (ns : List ℕ) (place number : ℕ) → AreNumbersOf ops ns → slice_get ns place ≡ Some number
    → option_and_then (λ op. op.value) (slice_get ops number) ≡ option_and_then (λ p. p.value) (slice_get (points_of (listed ops ns)) place)
value-listed ops ns place number known is =
    value_of_point (slice_get ops number)
    ∙ ap (option_and_then (λ (p : Point). p.value)) (sym (slice_get-map point_of ops number) ∙ sym (point-listed ops ns place number known is))

-- ---- abbreviated keys

pub keys-have : (points : List Point) (leaves : List Slots) → keys_in leaves ≡ keys_of points leaves → HaveAbbreviatedKeys points leaves
keys-have points [] is = tt
keys-have points (s ∷ ss) is = (ap (λ (ks : List (List ℕ)). get_or ks 0 []) is, keys-have points ss (ap (drop 1) is))

pub have-keys : (points : List Point) (leaves : List Slots) → HaveAbbreviatedKeys points leaves → keys_in leaves ≡ keys_of points leaves
have-keys points [] h = refl
have-keys points (s ∷ ss) h = ap₂ (λ (k : List ℕ) (ks : List (List ℕ)). k ∷ ks) h.0 (have-keys points ss h.1)

same_mapped : (f g : ℕ → ℕ) (bound : ℕ) → ((n : ℕ) → n < bound → f n ≡ g n) → (ns : List ℕ) → AllByRecursion (λ n. n < bound) ns → map f ns ≡ map g ns
same_mapped f g bound same [] known = refl
same_mapped f g bound same (n ∷ ns) known = ap₂ (λ (x : ℕ) (xs : List ℕ). x ∷ xs) (same n known.0) (same_mapped f g bound same ns known.1)

-- where the entries that were there have the abbreviated keys that they had, the leaves' are still theirs
pub keys-same : (points more : List Point) (leaves : List Slots) → ((n : ℕ) → n < length points → abbreviated_at points n ≡ abbreviated_at more n)
    → AllByRecursion (λ n. n < length points) (numbers_in leaves) → HaveAbbreviatedKeys points leaves → HaveAbbreviatedKeys more leaves
keys-same points more [] same known h = tt
keys-same points more (s ∷ ss) same known h = (
  h.0 ∙ same_mapped (abbreviated_at points) (abbreviated_at more) (length points) same s.numbers (each-front (λ n. n < length points) s.numbers (numbers_in ss) known),
  keys-same points more ss same (each-back (λ n. n < length points) s.numbers (numbers_in ss) known) h.1,
)

pub known-points : (ops : List PointOp) (ns : List ℕ) → AreNumbersOf ops ns → All (λ n. n < length (points_of ops)) ns
known-points ops ns known = (let same = length-map ops point_of in All-weaker (λ (n : ℕ). n < length ops) (λ (n : ℕ). n < length (points_of ops)) (λ n lt. omega arith) ns known)

-- the leaves are an index of the entries
pub indexed-held : (ops : List PointOp) (leaves : List Slots) → AreNumbersOf ops (numbers_in leaves) → keys_in leaves ≡ keys_of (points_of ops) leaves
    → AreEntries (listed ops (numbers_in leaves)) → IsIndexed (points_of ops) leaves
indexed-held ops leaves known keys entries = record {
  known = known-points ops (numbers_in leaves) known;
  abbreviated_keys = keys-have (points_of ops) leaves keys;
  rising = subst IsRising (points-listed ops (numbers_in leaves)) entries.rising;
}

-- ---- places

-- a gap stands within all names
pub gap-within : (leaves : List Slots) (leaf slot : ℕ) → IsGap leaves leaf slot → place_of leaves leaf slot ≤ length (numbers_in leaves)
gap-within [] zero slot gap = (let s = gap.slot_within in omega arith)
gap-within [] (suc leaf) slot gap = (let s = gap.slot_within in omega arith)
gap-within (s ∷ ss) leaf slot gap =
    let l = gap.leaf_within in
    let w = gap.slot_within in
    let le = place-le (s ∷ ss) leaf (omega arith) in
    omega arith

-- ---- an operation under a number

-- one more at the end
pub stored-pushed : (ops new : List PointOp) (op : PointOp) (number : ℕ) → new ≡ ops ++ op ∷ [] → number ≡ length ops → IsStored op number ops new
stored-pushed ops new op number is at =
    let long : length new ≡ length ops + 1 = ap length is ∙ length-append ops (op ∷ []) in
    record {
      longer = omega arith;
      here = slice_get-get_or new number op (omega arith) ∙ ap Some (ap₂ (λ (us : List PointOp) (n : ℕ). get_or us n op) is at ∙ get_or-append_seam ops op [] op);
      others = λ n lt apart. ap (λ (us : List PointOp). slice_get us n) is ∙ slice_get-front ops op n lt;
    }

entry_stored : (ops new : List PointOp) (n : ℕ) → slice_get new n ≡ slice_get ops n → n < length ops → entry_at (points_of new) n ≡ entry_at (points_of ops) n
entry_stored ops new n same lt =
    let at : slice_get ops n ≡ Some (get_or ops n no_op) = slice_get-get_or ops n no_op lt in
    sym (entry-op new n) ∙ ap point_of (get_or_from_slice_get new n (get_or ops n no_op) no_op (same ∙ at)) ∙ entry-op ops n

entry_here : (new : List PointOp) (n : ℕ) (op : PointOp) → slice_get new n ≡ Some op → entry_at (points_of new) n ≡ point_of op
entry_here new n op is = sym (entry-op new n) ∙ ap point_of (get_or_from_slice_get new n op no_op is)

-- the other entries keep their abbreviated keys, and so does that with the number, where its name was that of the operation
pub abbreviated-stored : (op : PointOp) (number : ℕ) (ops new : List PointOp) → IsStored op number ops new
    → (number < length ops → name_cmp (name_in op.key) (entry_at (points_of ops) number).name ≡ Equal)
    → (n : ℕ) → n < length (points_of ops) → abbreviated_at (points_of ops) n ≡ abbreviated_at (points_of new) n
abbreviated-stored op number ops new stored tied n within =
    let count = length-map ops point_of in
    let other : n ≢ number → abbreviated_at (points_of ops) n ≡ abbreviated_at (points_of new) n =
    λ apart. ap (λ (p : Point). abbreviated_key p.name.key) (sym (entry_stored ops new n (stored.others n (omega arith) apart) (omega arith))) in
    elim (cases_order n number) [
      | inl same ↦ (
          let lt : number < length ops = omega arith in
          ap (abbreviated_at (points_of ops)) same ∙ ap abbreviated_key (sym (name_cmp-key (name_in op.key) (entry_at (points_of ops) number).name (tied lt)))
          ∙ ap (λ (p : Point). abbreviated_key p.name.key) (sym (entry_here new number op stored.here)) ∙ ap (abbreviated_at (points_of new)) (sym same))
      | inr (inl before) ↦ other (λ same. omega arith)
      | inr (inr behind) ↦ other (λ same. omega arith)
    ]

-- what leaves hold after an operation was put under a number
pub keys-stored : (op : PointOp) (number : ℕ) (ops new : List PointOp) (leaves : List Slots) → AreNumbersOf ops (numbers_in leaves) → keys_in leaves ≡ keys_of (points_of ops) leaves
    → IsStored op number ops new → (number < length ops → name_cmp (name_in op.key) (entry_at (points_of ops) number).name ≡ Equal) → HaveAbbreviatedKeys (points_of new) leaves
keys-stored op number ops new leaves known keys stored tied =
    keys-same (points_of ops) (points_of new) leaves (abbreviated-stored op number ops new stored tied)
    (recursion_from_All (λ (n : ℕ). n < length (points_of ops)) (numbers_in leaves) (known-points ops (numbers_in leaves) known)) (keys-have (points_of ops) leaves keys)

pub numbers-stored : (ops new : List PointOp) (ns : List ℕ) → length ops ≤ length new → AreNumbersOf ops ns → AreNumbersOf new ns
numbers-stored ops new ns le known = All-weaker (λ (n : ℕ). n < length ops) (λ (n : ℕ). n < length new) (λ n lt. omega arith) ns known

-- one number more
pub numbers-put : (new : List PointOp) (ns more : List ℕ) (place number : ℕ) → AreNumbersOf new ns → number < length new → more ≡ insert ns place number → AreNumbersOf new more
numbers-put new ns more place number known lt is =
    let P : ℕ → Type 0 = λ n. n < length new in
    subst (All P) (sym is) (All-append P (take place ns) (number ∷ drop place ns) (All-take P place ns known) (All-cons P number (drop place ns) lt (All-drop P place ns known)))

-- the abbreviated key of the one that was put at the end
pub abbreviated-pushed : (ops new : List PointOp) (op : PointOp) (number abbreviated : ℕ) → new ≡ ops ++ op ∷ [] → number ≡ length ops → IsAbbreviatedKey (name_in op.key).key abbreviated
    → abbreviated ≡ abbreviated_at (points_of new) number
abbreviated-pushed ops new op number abbreviated is at h =
    h.is ∙ ap (λ (p : Point). abbreviated_key p.name.key) (sym (entry_here new number op (stored-pushed ops new op number is at).here))

-- ---- an operation at the place of its name

-- the operation there has the name
pub tied-entry : (ops : List PointOp) (ns : List ℕ) (place high number : ℕ) (name : Name) → AreNumbersOf ops ns → slice_get ns place ≡ Some number → place < high
    → IsRangeBy Point (λ p. p.name) name (points_of (listed ops ns)) place high → name_cmp name (entry_at (points_of ops) number).name ≡ Equal
tied-entry ops ns place high number name known is some range =
    let lt = number-known ops ns place number known is in
    let count = length-map ops point_of in
    range.tied some (entry_at (points_of ops) number) (point-listed ops ns place number known is ∙ slice_get-get_or (points_of ops) number no_point (omega arith))

-- so the key of an operation with that name is bytes
pub bytes-tied : (ops : List PointOp) (key : List ℕ) (number : ℕ) → AreBytes (points_of ops) → number < length ops
    → name_cmp (name_in key) (entry_at (points_of ops) number).name ≡ Equal → IsBytes (name_in key).key
bytes-tied ops key number bytes lt tied =
    let count = length-map ops point_of in
    subst IsBytes (sym (name_cmp-key (name_in key) (entry_at (points_of ops) number).name tied))
    (bytes number (entry_at (points_of ops) number) (slice_get-get_or (points_of ops) number no_point (omega arith)))

-- ---- all of it

-- what holds of the operations and of the leaves
pub record IsHeld (ops : List PointOp) (leaves : List Slots) : Type 0 where
  pub count : length (numbers_in leaves) ≡ length ops
  pub numbers : AreNumbersOf ops (numbers_in leaves)
  pub abbreviated_keys : keys_in leaves ≡ keys_of (points_of ops) leaves
  pub entries : AreEntries (listed ops (numbers_in leaves))

-- a newer operation under the number of its name
pub held-known : (op : PointOp) (number : ℕ) (ops new : List PointOp) (leaves : List Slots) (low behind : ℕ) → IsHeld ops leaves → IsStorable op
    → IsRangeBy Point (λ p. p.name) (name_in op.key) (points_of (listed ops (numbers_in leaves))) low behind → low < behind → slice_get (numbers_in leaves) low ≡ Some number
    → IsStored op number ops new → length new ≡ length ops
    → IsHeld new leaves × (listed new (numbers_in leaves) ≡ newest_ops (op ∷ []) (listed ops (numbers_in leaves)))
held-known op number ops new leaves low behind h storable range some is stored same =
    let ns = numbers_in leaves in
    let merged : listed new ns ≡ newest_ops (op ∷ []) (listed ops ns) =
    one-known op number ops new ns low behind h.numbers h.entries (seen-range (name_in op.key) (listed ops ns) low behind range) stored some is in (
      record {
        count = h.count ∙ sym same;
        numbers = numbers-stored ops new ns stored.longer h.numbers;
        abbreviated_keys = have-keys (points_of new) leaves (keys-stored op number ops new leaves h.numbers h.abbreviated_keys stored
            (λ lt. tied-entry ops ns low behind number (name_in op.key) h.numbers is some range));
        entries = subst AreEntries (sym merged) (entries-newest (op ∷ []) (listed ops ns) (entries-one op storable) h.entries);
      },
      merged,
    )

-- an operation under a new number, which stands at the place of its name
pub held-new : (op : PointOp) (number abbreviated : ℕ) (ops new : List PointOp) (leaves more : List Slots) (low behind place : ℕ) → IsHeld ops leaves → IsStorable op
    → IsRangeBy Point (λ p. p.name) (name_in op.key) (points_of (listed ops (numbers_in leaves))) low behind → behind ≤ low → place ≡ low
    → new ≡ ops ++ op ∷ [] → number ≡ length ops → IsAbbreviatedKey (name_in op.key).key abbreviated → numbers_in more ≡ insert (numbers_in leaves) place number
    → ((points : List Point) → abbreviated ≡ abbreviated_at points number → HaveAbbreviatedKeys points leaves → HaveAbbreviatedKeys points more)
    → IsHeld new more × (listed new (numbers_in more) ≡ newest_ops (op ∷ []) (listed ops (numbers_in leaves)))
held-new op number abbreviated ops new leaves more low behind place h storable range none at made numbered_is key put keys =
    let ns = numbers_in leaves in
    let stored = stored-pushed ops new op number made numbered_is in
    let ordered = range.ordered in
    let put_low : numbers_in more ≡ insert ns low number = put ∙ ap (λ (n : ℕ). insert ns n number) at in
    let merged : listed new (numbers_in more) ≡ newest_ops (op ∷ []) (listed ops ns) =
    ap (listed new) put_low
    ∙ one-new op number ops new ns low behind h.numbers h.entries (seen-range (name_in op.key) (listed ops ns) low behind range) stored (omega arith) numbered_is in
    let long : length new ≡ length ops + 1 = ap length made ∙ length-append ops (op ∷ []) in
    let longer = count-put ns (numbers_in more) low number put_low in
    let same = h.count in (
      record {
        count = omega arith;
        numbers = numbers-put new ns (numbers_in more) low number (numbers-stored ops new ns stored.longer h.numbers) (omega arith) put_low;
        abbreviated_keys = have-keys (points_of new) more (keys (points_of new) (abbreviated-pushed ops new op number abbreviated made numbered_is key)
            (keys-stored op number ops new leaves h.numbers h.abbreviated_keys stored (λ lt. absurd (omega arith))));
        entries = subst AreEntries (sym merged) (entries-newest (op ∷ []) (listed ops ns) (entries-one op storable) h.entries);
      },
      merged,
    )

-- ---- newer operations one by one

in_order_front : (xs ys zs : List PointOp) → in_order op_cmp ys ≡ in_order op_cmp zs → in_order op_cmp (xs ++ ys) ≡ in_order op_cmp (xs ++ zs)
in_order_front [] ys zs h = h
in_order_front (x ∷ xs) ys zs h = ap (put_in_order op_cmp x) (in_order_front xs ys zs h)

-- the last of newer operations may be put first, and then the others
pub newest-fold : (before : List PointOp) (op : PointOp) (older : List PointOp) → newest_ops (before ++ op ∷ []) older ≡ newest_ops before (newest_ops (op ∷ []) older)
newest-fold before op older =
    ap (in_order op_cmp) (append_assoc before (op ∷ []) older)
    ∙ in_order_front before (op ∷ older) (in_order op_cmp (op ∷ older))
    (sym (in_order-same op_cmp (in_order op_cmp (op ∷ older)) (in_order-sorted op_cmp-total (op ∷ older))))

-- nothing newer changes nothing
pub newest-none : (older : List PointOp) → AreEntries older → newest_ops [] older ≡ older
newest-none older e = in_order-same op_cmp older (sorted-entries older e)

-- the last of entries is storable
pub storable-last : (before : List PointOp) (op : PointOp) → AreEntries (before ++ op ∷ []) → IsStorable op
storable-last before op e = each-last IsStorable before op (recursion_from_All IsStorable (before ++ op ∷ []) e.storable)
