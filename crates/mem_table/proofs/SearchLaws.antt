-- Looks of a search by halves.
use Rattle.std.proofs.Common.{◌≡◌, ℕ, ◌+◌, ◌-◌, ◌/◌, ◌<◌, ◌≤◌, Bool, true, false, cond, List, length, get_or, refl, sym, ap, subst, ◌∙◌, arith, inl, inr}
use Rattle.std.specs.Prelude.{slice_get, Some}
use Rattle.std.specs.declared.cmp.Ordering.TheVariants.{Less, Greater}
use Rattle.std.specs.Ordering.{is_lt}
use Rattle.std.proofs.lemmas.Bool.{cases_lt, cases_order}
use Rattle.std.proofs.lemmas.Option.{slice_get-get_or, slice_get_within}
use Rattle.mvcc_key.specs.Order.{Name, name_cmp}
use Rattle.mvcc_key.specs.Encoded.{IsBytes}
use Rattle.mvcc_key.specs.views.AbbreviatedKey.{IsAbbreviatedKey}
use Rattle.mvcc_key.specs.Points.{Point, IsRising, is_below_name}
use Rattle.mvcc_key.proofs.AbbreviatedKeyLaws.{names-less, names-greater}
use Rattle.mvcc_key.proofs.PointLaws.{IsNarrowed, IsNarrowed-below, IsNarrowed-above}
use Rattle.mem_table.specs.views.Entries.{no_point, entry_at, numbered, IsIndex}
use Rattle.mem_table.specs.views.Halves.{AreNotFalling, IsHalved}
use Rattle.mem_table.proofs.NumberedLaws.{numbered-at, abbreviated-at, length-abbreviated_keys, length-numbered}

-- the abbreviated key beside a number is its entry's
entry-abbreviated : (points : List Point) (abbreviated_keys numbers : List ℕ) (i : ℕ) → ((n : ℕ) (p : Point) → slice_get points n ≡ Some p → IsBytes p.name.key) → IsIndex points abbreviated_keys numbers
    → i < length numbers → IsAbbreviatedKey (entry_at points (get_or numbers i 0)).name.key (get_or abbreviated_keys i 0)
entry-abbreviated points abbreviated_keys numbers i bytes index within = record {
  is = abbreviated-at points abbreviated_keys numbers i index within;
  bytes = bytes (get_or numbers i 0) (entry_at points (get_or numbers i 0)) (slice_get-get_or points (get_or numbers i 0) no_point (index.known i 0 within));
}

-- where names rise, abbreviated keys do not fall
pub abbreviated_keys-rise : (points : List Point) (abbreviated_keys numbers : List ℕ) → ((n : ℕ) (p : Point) → slice_get points n ≡ Some p → IsBytes p.name.key) → IsIndex points abbreviated_keys numbers → AreNotFalling abbreviated_keys
abbreviated_keys-rise points abbreviated_keys numbers bytes index i j le within =
    elim (cases_order i j) [
      | inl same ↦ (let one = ap (λ (n : ℕ). get_or abbreviated_keys n 0) same in omega arith)
      | inr (inl before) ↦ apart before
      | inr (inr behind) ↦ absurd (omega arith)
    ]
  where
    apart : i < j → get_or abbreviated_keys i 0 ≤ get_or abbreviated_keys j 0
    apart before =
        let count = length-abbreviated_keys points abbreviated_keys numbers index in
        elim (cases_lt (get_or abbreviated_keys j 0) (get_or abbreviated_keys i 0)) [
          | inl less ↦
              (let first = entry_at points (get_or numbers i 0) in
              let second = entry_at points (get_or numbers j 0) in
              let up : name_cmp first.name second.name ≡ Less =
              index.rising i j first second before (numbered-at points numbers i (omega arith)) (numbered-at points numbers j (omega arith)) in
              let down : name_cmp first.name second.name ≡ Greater =
              names-greater first.name second.name (get_or abbreviated_keys i 0) (get_or abbreviated_keys j 0) (entry-abbreviated points abbreviated_keys numbers i bytes index (omega arith))
              (entry-abbreviated points abbreviated_keys numbers j bytes index (omega arith)) less in
              absurd cc)
          | inr more ↦ more
        ]

-- what abbreviated keys alone settle
pub narrowed-halved : (name : Name) (points : List Point) (abbreviated_keys numbers : List ℕ) (abbreviated base count low left : ℕ)
    → ((n : ℕ) (p : Point) → slice_get points n ≡ Some p → IsBytes p.name.key) → IsIndex points abbreviated_keys numbers → IsAbbreviatedKey name.key abbreviated
    → IsNarrowed name (numbered points numbers) base (base + count) → IsHalved abbreviated_keys abbreviated base count low left → IsNarrowed name (numbered points numbers) low (low + left)
narrowed-halved name points abbreviated_keys numbers abbreviated base count low left bytes index sought n h = record {
  ordered = omega arith;
  within = (let w = n.within in let upto = h.upto in omega arith);
  below = below;
  above = above;
}
  where
    same : (i : ℕ) (p : Point) → slice_get (numbered points numbers) i ≡ Some p → entry_at points (get_or numbers i 0) ≡ p
    same i p is =
        let within = slice_get_within (numbered points numbers) i p is in
        let there = numbered-at points numbers i (omega (arith, length-numbered points numbers)) in
        (let one : Some (entry_at points (get_or numbers i 0)) ≡ Some p = sym there ∙ is in cc)

    below : (i : ℕ) (p : Point) → i < low → slice_get (numbered points numbers) i ≡ Some p → is_below_name name p ≡ true
    below i p lt is =
        elim (cases_lt i base) [
          | inl before ↦ n.below i p before is
          | inr behind ↦
              (let within = slice_get_within (numbered points numbers) i p is in
              let entry = entry_at points (get_or numbers i 0) in
              let less = names-less entry.name name (get_or abbreviated_keys i 0) abbreviated (entry-abbreviated points abbreviated_keys numbers i bytes index (omega (arith, length-numbered points numbers))) sought (h.below i behind lt) in
              subst (λ (q : Point). is_below_name name q ≡ true) (same i p is) (ap is_lt less))
        ]

    above : (i : ℕ) (p : Point) → low + left ≤ i → slice_get (numbered points numbers) i ≡ Some p → is_below_name name p ≡ false
    above i p le is =
        elim (cases_lt i (base + count)) [
          | inl before ↦
              (let within = slice_get_within (numbered points numbers) i p is in
              let entry = entry_at points (get_or numbers i 0) in
              let more = names-greater entry.name name (get_or abbreviated_keys i 0) abbreviated (entry-abbreviated points abbreviated_keys numbers i bytes index (omega (arith, length-numbered points numbers))) sought (h.above i le before) in
              subst (λ (q : Point). is_below_name name q ≡ false) (same i p is) (ap is_lt more))
          | inr behind ↦ n.above i p behind is
        ]

-- what a look at a name settles
pub narrowed-look : (name : Name) (points : List Point) (numbers : List ℕ) (low left half more : ℕ) → IsRising (numbered points numbers)
    → IsNarrowed name (numbered points numbers) low (low + left) → 0 < left → half ≡ left - left / 2
    → more ≡ cond (is_below_name name (entry_at points (get_or numbers (low + half - 1) 0))) half 0 → IsNarrowed name (numbered points numbers) (low + more) (low + more + (left - half))
narrowed-look name points numbers low left half more rising n some is are = by (is_below_name name (entry_at points (get_or numbers (low + half - 1) 0))) refl
  where
    by : (b : Bool) → is_below_name name (entry_at points (get_or numbers (low + half - 1) 0)) ≡ b → IsNarrowed name (numbered points numbers) (low + more) (low + more + (left - half))
    by true below =
        let count = length-numbered points numbers in
        let within = n.within in
        let all : more ≡ half = are ∙ ap (λ (b : Bool). cond b half 0) below in
        let low_is : low + half - 1 + 1 ≡ low + more = omega arith in
        let high_is : low + left ≡ low + more + (left - half) = omega arith in
        subst (λ (l : ℕ). IsNarrowed name (numbered points numbers) l (low + more + (left - half))) low_is
        (subst (λ (h : ℕ). IsNarrowed name (numbered points numbers) (low + half - 1 + 1) h) high_is
        (IsNarrowed-below name (numbered points numbers) low (low + left) (low + half - 1) (entry_at points (get_or numbers (low + half - 1) 0)) rising n (omega arith)
        (numbered-at points numbers (low + half - 1) (omega arith)) below))
    by false not_below =
        let count = length-numbered points numbers in
        let within = n.within in
        let none : more ≡ 0 = are ∙ ap (λ (b : Bool). cond b half 0) not_below in
        let narrow = IsNarrowed-above name (numbered points numbers) low (low + left) (low + half - 1) (entry_at points (get_or numbers (low + half - 1) 0)) rising n (omega arith) (omega arith)
        (numbered-at points numbers (low + half - 1) (omega arith)) not_below in
        record {
          ordered = omega arith;
          within = omega arith;
          below = λ i p lt at. narrow.below i p (omega arith) at;
          above = λ i p le at. narrow.above i p (omega arith) at;
        }
