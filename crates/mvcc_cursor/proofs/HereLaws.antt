-- What is read of the point at which a cursor stands.
use Rattle.std.proofs.Common.{◌≡◌, ℕ, zero, suc, Bool, true, false, cond, List, [], length, ◌≤◌, refl, sym, ap, subst, ◌∙◌, arith}
use Rattle.std.specs.Prelude.{◌&&◌, Some, None, is_some, IsSome, not, unwrap_or}
use Rattle.std.specs.declared.option.Option.{Option}
use Rattle.std.specs.Option.{option_map, option_and_then}
use Rattle.mvcc_key.specs.Order.{Key, Name, is_no_time, is_same_key}
use Rattle.mvcc_key.specs.KeyFormat.{encoded_name}
use Rattle.mvcc_key.specs.Encoded.{name_in}
use Rattle.mvcc_key.specs.Points.{Point, AreEncodable, point_at, key_at, value_at}
use Rattle.mvcc_key.proofs.PointLaws.{point_at-next}
use Rattle.merge_cursor.proofs.HeadLaws.{has_head, head_name}
use Rattle.mvcc_cursor.specs.KeyPoints.{record_name, is_of_key, is_version, kept_if, key_in}
use Rattle.mvcc_cursor.specs.views.Short.{AreSet, AreShortKeys}
use Rattle.mvcc_cursor.specs.views.Lent.{version_in, bytes_in}

-- a test of the point there, by the name that is read
pub tested : (test : Point → Bool) (points : List Point) (place : ℕ) (encoded : List ℕ) (encodable : AreEncodable points) (at : Some encoded ≡ key_at points place)
    → (n : Name) → n ≡ name_in encoded → (b : Bool) → ((p : Point) → p.name ≡ n → test p ≡ b) → b ≡ is_some (kept_if test (point_at points place))
tested test points place encoded encodable at n read b answers =
    (let h = has_head points place encoded encodable at in
    let name : h.point.name ≡ n = sym (read ∙ head_name points place encoded h) in
    let t : test h.point ≡ b = answers h.point name in
    sym (ap (λ o. is_some (kept_if test o)) h.here ∙ ap (λ (c : Bool). is_some (cond c (Some h.point) None)) t ∙ by b h.point))
  where
    by : (b : Bool) (p : Point) → is_some (cond b (Some p) None) ≡ b
    by true p = refl
    by false p = refl

-- each point has a value
pub set-here : (points : List Point) (place : ℕ) (encoded : List ℕ) (encodable : AreEncodable points) → AreSet points → Some encoded ≡ key_at points place → None ≡ value_at points place → ⊥
set-here points place encoded encodable set at none =
    some (has_head points place encoded encodable at).point.value
    (sym (none ∙ ap (option_and_then (λ p. p.value)) (has_head points place encoded encodable at).here))
    (set-at place (has_head points place encoded encodable at).point (has_head points place encoded encodable at).here)
  where
    some : (v : Option (List ℕ)) → v ≡ None → IsSome v → ⊥
    some None is there = cc
    some (Some x) is there = cc

    set-at : (k : ℕ) (p : Point) → point_at points k ≡ Some p → IsSome p.value
    set-at zero p there = cc
    set-at (suc k) p there = set k p (sym (point_at-next points k) ∙ ap (point_at points) (omega arith) ∙ there)

-- the version, where the name of the point there is that of one of the key's versions
module _ (points : List Point) (place : ℕ) (encoded value : List ℕ) (encodable : AreEncodable points) (at : Some encoded ≡ key_at points place) (set : Some value ≡ value_at points place) where
  value-here : (p : Point) → point_at points place ≡ Some p → bytes_in p.value ≡ value
  value-here p there = (let e : Some value ≡ p.value = set ∙ ap (option_and_then (λ p. p.value)) there in sym (ap bytes_in e))

  pub version-here : (key : Key) (n : Name) → n ≡ name_in encoded → (b : Bool) → b ≡ (is_same_key n.key key && not (is_no_time n.ts))
      → option_map version_in (kept_if (λ p. is_of_key key p && is_version p) (point_at points place)) ≡ cond b (Some (record { ts = n.ts; value = value })) None
  version-here key n read b is =
      (let h = has_head points place encoded encodable at in
      let name : h.point.name ≡ n = sym (read ∙ head_name points place encoded h) in
      let test : (is_of_key key h.point && is_version h.point) ≡ b = ap (λ (m : Name). is_same_key m.key key && not (is_no_time m.ts)) name ∙ sym is in
      ap (λ o. option_map version_in (kept_if (λ p. is_of_key key p && is_version p) o)) h.here
      ∙ ap (λ (c : Bool). option_map version_in (cond c (Some h.point) None)) test
      ∙ by b h.point h.here name)
    where
      by : (b : Bool) (p : Point) → point_at points place ≡ Some p → p.name ≡ n → option_map version_in (cond b (Some p) None) ≡ cond b (Some (record { ts = n.ts; value = value })) None
      by true p there name = ap Some (λ i. record { ts = (ap (λ (m : Name). m.ts) name) i; value = value-here p there i })
      by false p there name = refl

-- the key of the point there fits, and is what is sought then
module _ (points : List Point) (place : ℕ) (encoded : List ℕ) (encodable : AreEncodable points) (at : Some encoded ≡ key_at points place) (n : Name) (read : n ≡ name_in encoded) where
  pub short-here : AreShortKeys points → length n.key ≤ 4096
  short-here short =
      (let h = has_head points place encoded encodable at in
      subst (λ (m : Name). length m.key ≤ 4096) (sym (read ∙ head_name points place encoded h)) (by place h.point h.here))
    where
      by : (k : ℕ) (p : Point) → point_at points k ≡ Some p → length p.name.key ≤ 4096
      by zero p there = cc
      by (suc k) p there = (short k p (sym (point_at-next points k) ∙ ap (point_at points) (omega arith) ∙ there)).short

  pub sought-here : encoded_name (record_name n.key) ≡ encoded_name (record_name (unwrap_or (key_in (point_at points place)) []))
  sought-here =
      (let h = has_head points place encoded encodable at in
      ap (λ (m : Name). encoded_name (record_name m.key)) (read ∙ head_name points place encoded h)
      ∙ sym (ap (λ o. encoded_name (record_name (unwrap_or (key_in o) []))) h.here))
