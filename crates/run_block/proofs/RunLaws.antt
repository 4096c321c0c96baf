-- A run that is written is read again, each entry with its place, and what is read was written.
use Rattle.std.proofs.Common.{◌≡◌, ℕ, zero, suc, ◌+◌, ◌^◌, ◌<◌, ◌≤◌, true, false, eqb, ltb, List, [], ◌∷◌, ◌++◌, length, get_or, take, map, Option, Some, None, Result, Ok, Err, refl, sym, ap, subst, ◌∙◌, append_assoc, arith}
use Rattle.std.specs.Prelude.{not, ⊤, ◌||◌, ◌&&◌, bytes_eq}
use Rattle.std.specs.List.{flat_map}
use Rattle.std.specs.Int.{Width, w32, w64, byte_len, from_be_bytes, to_be_bytes}
use Rattle.std.proofs.lemmas.Bool.{le-ltb, ltb-false, not-false, not_from_true, and_parts, or_parts, or_from, ne_eqb, eqb-false}
use Rattle.std.proofs.lemmas.List.{append-nil, take_at, drop_at, take-append-drop, length-append, length-take-le}
use Rattle.std.proofs.lemmas.List.Concat.{flat_map-cons}
use Rattle.std.proofs.lemmas.Slice.Eq.{bytes_eq-Decides}
use Rattle.mvcc_key.specs.Steps.{◌>>=◌, unless_fault}
use Rattle.mvcc_key.specs.Order.{Timestamp, is_no_time, is_in_range, Key, is_below, Name}
use Rattle.mvcc_key.specs.Points.{Point}
use Rattle.mvcc_key.specs.Limits.{max_key_length, max_bound_length, max_stored_length}
use Rattle.mvcc_key.specs.KeyFormat.{KeyFault, encoded_name, name_of}
use Rattle.mvcc_key.specs.FileKind.{FileKind}
use Rattle.mvcc_key.proofs.ByteLaws.{IsBytes, IsBytes-drop, IsBytes-take, IsWide, wide32, wide64, bind_ok, unless_ok, unless_passes, step, ok_is, none_left, Takes, Takes-then}
use Rattle.mvcc_key.proofs.KeyFormatLaws.{in_range, IsEncoded, IsEncoded-name_of, name_of-encoded_name, length-encoded_name_le}
use Rattle.mvcc_key.specs.RangeOperations.{RangeOp}
use Rattle.run_block.specs.RunFormat.{Run, with_length, kind_byte, value_part, point_bytes, range_bytes, magic, run_bytes, RunFault, Placed, Rest, after, fault_at, field, number, counted, kind_at, stored_name, name_at, is_next, value_at, point_at, points_at, set_or_removed, is_range_op, range_at, ranges_at, PlacedRun, head_at, read_run, without_places, run_from, run_of}

-- ---- what is read was written: fields

-- bytes that are read are as many as were asked for
pub field-takes : (n : ℕ) (rest : Rest) (x : List ℕ × Rest) → IsBytes rest.bytes → field n rest ≡ Ok x → Takes rest.bytes x.0 (x.1).bytes × (length x.0 ≡ n) × IsBytes x.0
field-takes n rest x fits e =
    let g = unless_ok (ltb (length rest.bytes) n) (fault_at FileKind.Short rest.place) (take n rest.bytes, after n rest) x e in
    let long : n ≤ length rest.bytes = ltb-false _ _ g.0 in
    subst (λ (y : List ℕ × Rest). Takes rest.bytes y.0 (y.1).bytes × (length y.0 ≡ n) × IsBytes y.0) g.1
    (record { parts = sym (take-append-drop n rest.bytes); rest_fits = IsBytes-drop n rest.bytes fits }, length-take-le n rest.bytes long, IsBytes-take n rest.bytes fits)

-- a number that is read was written, and is below the limit
pub number-takes : (w : Width) (most : ℕ) (wide : IsWide w most) (rest : Rest) (x : ℕ × Rest) → IsBytes rest.bytes
    → number w rest ≡ Ok x → Takes rest.bytes (to_be_bytes w x.0) (x.1).bytes × (x.0 < most)
number-takes w most wide rest x fits e =
    let a = bind_ok (field (byte_len w) rest) _ x e in
    let t = field-takes (byte_len w) rest a.0 fits a.1 in
    let back : to_be_bytes w (from_be_bytes w a.0.0) ≡ a.0.0 = wide.back a.0.0 t.1 t.2 in
    subst (λ (y : ℕ × Rest). Takes rest.bytes (to_be_bytes w y.0) (y.1).bytes × (y.0 < most)) (ok_is (from_be_bytes w a.0.0, a.0.1) x a.2)
    (subst (λ (text : List ℕ). Takes rest.bytes text (a.0.1).bytes) (sym back) t.0, wide.below a.0.0 t.2)

-- bytes with their length that are read were written, and are within the limit
pub counted-takes : (limit : ℕ) (fault : RunFault) (rest : Rest) (x : List ℕ × Rest) → IsBytes rest.bytes
    → counted limit fault rest ≡ Ok x → Takes rest.bytes (with_length x.0) (x.1).bytes × (length x.0 ≤ limit)
counted-takes limit fault rest x fits e =
    let a = bind_ok (number w32 rest) _ x e in
    let b = bind_ok (unless_fault (ltb limit a.0.0) fault a.0) _ x a.2 in
    let g = unless_ok (ltb limit a.0.0) fault a.0 b.0 b.1 in
    let t0 = number-takes w32 (2 ^ 32) wide32 rest a.0 fits a.1 in
    let few : a.0.0 ≤ limit = ltb-false _ _ g.0 in
    let t1 : Takes rest.bytes (to_be_bytes w32 b.0.0) (b.0.1).bytes × (b.0.0 ≤ limit) =
    subst (λ (y : ℕ × Rest). Takes rest.bytes (to_be_bytes w32 y.0) (y.1).bytes × (y.0 ≤ limit)) g.1 (t0.0, few) in
    let t2 = field-takes b.0.0 b.0.1 x t1.0.rest_fits b.2 in
    let sized : Takes rest.bytes (to_be_bytes w32 (length x.0)) (b.0.1).bytes = subst (λ (n : ℕ). Takes rest.bytes (to_be_bytes w32 n) (b.0.1).bytes) (sym t2.1) t1.0 in
    (Takes-then rest.bytes (to_be_bytes w32 (length x.0)) (b.0.1).bytes x.0 (x.1).bytes sized t2.0, subst (λ (n : ℕ). n ≤ limit) (sym t2.1) t1.1)

one_byte : (bytes : List ℕ) → length bytes ≡ 1 → bytes ≡ get_or bytes 0 0 ∷ []
one_byte [] len = absurd (omega arith)
one_byte (b ∷ []) len = refl
one_byte (b ∷ c ∷ bytes) len = absurd (omega arith)

-- a kind that is read was written, and is 0 or 1
pub kind-takes : (fault : RunFault) (rest : Rest) (x : ℕ × Rest) → IsBytes rest.bytes
    → kind_at fault rest ≡ Ok x → Takes rest.bytes (x.0 ∷ []) (x.1).bytes × (x.0 ≤ 1)
kind-takes fault rest x fits e =
    let a = bind_ok (field 1 rest) _ x e in
    let g = unless_ok (ltb 1 (get_or a.0.0 0 0)) fault (get_or a.0.0 0 0, a.0.1) x a.2 in
    let t = field-takes 1 rest a.0 fits a.1 in
    subst (λ (y : ℕ × Rest). Takes rest.bytes (y.0 ∷ []) (y.1).bytes × (y.0 ≤ 1)) g.1
    (subst (λ (text : List ℕ). Takes rest.bytes text (a.0.1).bytes) (one_byte a.0.0 t.1) t.0, ltb-false _ _ g.0)

-- ---- what is read was written: points

-- a key that may be stored, and a timestamp in range
pub record IsPointName (n : Name) : Type 0 where
  pub some : 0 < length n.key
  pub size : length n.key ≤ max_key_length
  pub range : is_in_range n.ts ≡ true

stored_name_ok : (fault : RunFault) (r : Result Name KeyFault) (n : Name) → stored_name fault r ≡ Ok n → (r ≡ Ok n) × (eqb (length n.key) 0 ≡ false) × (ltb max_key_length (length n.key) ≡ false)
stored_name_ok fault (Ok m) n e =
    let g = unless_ok (eqb (length m.key) 0 || ltb max_key_length (length m.key)) fault m n e in
    let p = or_parts (eqb (length m.key) 0) (ltb max_key_length (length m.key)) g.0 in
    let same : m ≡ n = g.1 in
    (cc, subst (λ (k : Name). eqb (length k.key) 0 ≡ false) same p.0, subst (λ (k : Name). ltb max_key_length (length k.key) ≡ false) same p.1)
stored_name_ok fault (Err f) n e = absurd cc

-- a name that is read was written, and may stand there
pub name-takes : (fault : RunFault) (rest : Rest) (x : Name × Rest) → IsBytes rest.bytes
    → name_at fault rest ≡ Ok x → Takes rest.bytes (with_length (encoded_name x.0)) (x.1).bytes × IsPointName x.0
name-takes fault rest x fits e =
    let a = bind_ok (number w32 rest) _ x e in
    let b = bind_ok (field a.0.0 a.0.1) _ x a.2 in
    let c = bind_ok (stored_name fault (name_of b.0.0)) _ x b.2 in
    let t0 = number-takes w32 (2 ^ 32) wide32 rest a.0 fits a.1 in
    let t1 = field-takes a.0.0 a.0.1 b.0 t0.0.rest_fits b.1 in
    let s = stored_name_ok fault (name_of b.0.0) c.0 c.1 in
    let encoded : IsEncoded b.0.0 c.0 = IsEncoded-name_of b.0.0 c.0 t1.2 s.0 in
    let sized : Takes rest.bytes (to_be_bytes w32 (length b.0.0)) (a.0.1).bytes = subst (λ (n : ℕ). Takes rest.bytes (to_be_bytes w32 n) (a.0.1).bytes) (sym t1.1) t0.0 in
    let whole : Takes rest.bytes (with_length b.0.0) (b.0.1).bytes = Takes-then rest.bytes (to_be_bytes w32 (length b.0.0)) (a.0.1).bytes b.0.0 (b.0.1).bytes sized t1.0 in
    let some : 0 < length (c.0).key = (let h = eqb-false (length (c.0).key) 0 s.1 in grind arith) in
    subst (λ (y : Name × Rest). Takes rest.bytes (with_length (encoded_name y.0)) (y.1).bytes × IsPointName y.0) (ok_is (c.0, b.0.1) x c.2)
    (subst (λ (text : List ℕ). Takes rest.bytes (with_length text) (b.0.1).bytes) encoded.bytes_are whole, record { some = some; size = ltb-false _ _ s.2; range = encoded.range })

-- a value that may be stored, or none
abbrev pub IsPointValue : Option (List ℕ) → Type 0
IsPointValue None = ⊤
IsPointValue (Some value) = length value ≤ max_stored_length

-- a value that is read was written, within the limit, and is of the kind
pub value-takes : (kind : ℕ) (fault : RunFault) (rest : Rest) (x : Option (List ℕ) × Rest) → IsBytes rest.bytes → kind ≤ 1
    → value_at kind fault rest ≡ Ok x → Takes rest.bytes (value_part x.0) (x.1).bytes × IsPointValue x.0 × (kind ≡ kind_byte x.0)
value-takes zero fault rest x fits le e =
    subst (λ (y : Option (List ℕ) × Rest). Takes rest.bytes (value_part y.0) (y.1).bytes × IsPointValue y.0 × (0 ≡ kind_byte y.0)) (ok_is (None, rest) x e)
    (record { parts = refl; rest_fits = fits }, tt, refl)
value-takes (suc k) fault rest x fits le e =
    let a = bind_ok (counted max_stored_length fault rest) _ x e in
    let t = counted-takes max_stored_length fault rest a.0 fits a.1 in
    let one : suc k ≡ 1 = omega arith in
    subst (λ (y : Option (List ℕ) × Rest). Takes rest.bytes (value_part y.0) (y.1).bytes × IsPointValue y.0 × (suc k ≡ kind_byte y.0)) (ok_is (Some a.0.0, a.0.1) x a.2)
    (t.0, t.1, one)

-- a point that a run may have behind the one before it
pub record IsRunPoint (before : Option Name) (p : Point) : Type 0 where
  pub name : IsPointName p.name
  pub next : is_next before p.name ≡ true
  pub value : IsPointValue p.value

-- points that a run may have behind the one before them
abbrev pub AreRunPoints : Option Name → List Point → Type 0
AreRunPoints before [] = ⊤
AreRunPoints before (p ∷ ps) = IsRunPoint before p × AreRunPoints (Some p.name) ps

-- a point that is read was written, and may stand there
pub point-takes : (before : Option Name) (rest : Rest) (x : Placed Point × Rest) → IsBytes rest.bytes
    → point_at before rest ≡ Ok x → Takes rest.bytes (point_bytes (x.0).item) (x.1).bytes × IsRunPoint before (x.0).item
point-takes before rest x fits e =
    let a = bind_ok (kind_at (fault_at FileKind.Key rest.place) rest) _ x e in
    let b = bind_ok (name_at (fault_at FileKind.Key rest.place) a.0.1) _ x a.2 in
    let c = bind_ok (unless_fault (not (is_next before b.0.0)) (fault_at FileKind.Order rest.place) b.0) _ x b.2 in
    let d = bind_ok (value_at a.0.0 (fault_at FileKind.Value rest.place) c.0.1) _ x c.2 in
    let made : Placed Point × Rest = (record { place = rest.place; item = record { name = b.0.0; value = d.0.0 } }, d.0.1) in
    let g = unless_ok (not (is_next before b.0.0)) (fault_at FileKind.Order rest.place) b.0 c.0 c.1 in
    let t0 = kind-takes (fault_at FileKind.Key rest.place) rest a.0 fits a.1 in
    let t1 = name-takes (fault_at FileKind.Key rest.place) a.0.1 b.0 t0.0.rest_fits b.1 in
    let t2 : Takes (a.0.1).bytes (with_length (encoded_name b.0.0)) (c.0.1).bytes = subst (λ (y : Name × Rest). Takes (a.0.1).bytes (with_length (encoded_name b.0.0)) (y.1).bytes) g.1 t1.0 in
    let t3 = value-takes a.0.0 (fault_at FileKind.Value rest.place) c.0.1 d.0 t2.rest_fits t0.1 d.1 in
    let kind : Takes rest.bytes (kind_byte d.0.0 ∷ []) (a.0.1).bytes = subst (λ (k : ℕ). Takes rest.bytes (k ∷ []) (a.0.1).bytes) t3.2 t0.0 in
    let front : Takes rest.bytes (kind_byte d.0.0 ∷ with_length (encoded_name b.0.0)) (c.0.1).bytes =
    Takes-then rest.bytes (kind_byte d.0.0 ∷ []) (a.0.1).bytes (with_length (encoded_name b.0.0)) (c.0.1).bytes kind t2 in
    let whole : Takes rest.bytes (point_bytes (made.0).item) (d.0.1).bytes =
    Takes-then rest.bytes (kind_byte d.0.0 ∷ with_length (encoded_name b.0.0)) (c.0.1).bytes (value_part d.0.0) (d.0.1).bytes front t3.0 in
    subst (λ (y : Placed Point × Rest). Takes rest.bytes (point_bytes (y.0).item) (y.1).bytes × IsRunPoint before (y.0).item) (ok_is made x d.2)
    (whole, record { name = t1.1; next = not-false _ g.0; value = t3.1 })

-- the entries without their places
abbrev pub items_of : {A : Type 0} → List (Placed A) → List A
items_of ps = map (λ p. p.item) ps

-- points that are read were written, are as many as were asked for, and may stand there
pub points-take : (n : ℕ) (before : Option Name) (rest : Rest) (x : List (Placed Point) × Rest) → IsBytes rest.bytes
    → points_at n before rest ≡ Ok x
    → Takes rest.bytes (flat_map point_bytes (items_of x.0)) (x.1).bytes × (length (items_of x.0) ≡ n) × AreRunPoints before (items_of x.0)
points-take zero before rest x fits e =
    subst (λ (y : List (Placed Point) × Rest). Takes rest.bytes (flat_map point_bytes (items_of y.0)) (y.1).bytes × (length (items_of y.0) ≡ 0) × AreRunPoints before (items_of y.0))
    (ok_is ([], rest) x e) (record { parts = refl; rest_fits = fits }, refl, tt)
points-take (suc n) before rest x fits e =
    let a = bind_ok (point_at before rest) _ x e in
    let b = bind_ok (points_at n (Some ((a.0.0).item).name) a.0.1) _ x a.2 in
    let first = point-takes before rest a.0 fits a.1 in
    let others = points-take n (Some ((a.0.0).item).name) a.0.1 b.0 first.0.rest_fits b.1 in
    let both = Takes-then rest.bytes (point_bytes (a.0.0).item) (a.0.1).bytes (flat_map point_bytes (items_of b.0.0)) (b.0.1).bytes first.0 others.0 in
    subst (λ (y : List (Placed Point) × Rest). Takes rest.bytes (flat_map point_bytes (items_of y.0)) (y.1).bytes × (length (items_of y.0) ≡ suc n) × AreRunPoints before (items_of y.0))
    (ok_is (a.0.0 ∷ b.0.0, b.0.1) x b.2) (rw flat_map-cons both, ap suc others.1, (first.1, others.2))

-- ---- what is read was written: range operations

-- a removal, or a tombstone without a value
abbrev pub IsRangeValue : Option (List ℕ) → Type 0
IsRangeValue None = ⊤
IsRangeValue (Some value) = length value ≡ 0

-- a range operation that a run may have
pub record IsRunRange (r : RangeOp) : Type 0 where
  pub start : length r.start ≤ max_bound_length
  pub end : length r.end ≤ max_bound_length
  pub value : IsRangeValue r.value
  pub form : is_range_op r ≡ true

set_or_removed-kind : (kind : ℕ) → kind ≤ 1 → (kind_byte (set_or_removed kind) ≡ kind) × IsRangeValue (set_or_removed kind)
set_or_removed-kind zero le = (refl, tt)
set_or_removed-kind (suc k) le = (omega arith, refl)

-- what is read behind the bounds
abbrev behind_bounds : ℕ → ℕ → Key → Key → Rest → Result (Placed RangeOp × Rest) RunFault
behind_bounds place kind start end rest =
    number w64 rest >>= λ wall. number w32 wall.1 >>= λ logical.
    unless_fault (not (is_range_op (record { start = start; end = end; ts = record { wall = wall.0; logical = logical.0 }; value = set_or_removed kind }))) (fault_at FileKind.RangeOrder place)
    (record { place = place; item = record { start = start; end = end; ts = record { wall = wall.0; logical = logical.0 }; value = set_or_removed kind } }, logical.1)

record BehindBounds (place kind : ℕ) (start end : Key) (rest : Rest) (x : Placed RangeOp × Rest) : Type 0 where
  ts : Timestamp
  left : Rest
  is : (record { place = place; item = record { start = start; end = end; ts = ts; value = set_or_removed kind } }, left) ≡ x
  taken : Takes rest.bytes (to_be_bytes w64 ts.wall ++ to_be_bytes w32 ts.logical) left.bytes
  form : is_range_op (record { start = start; end = end; ts = ts; value = set_or_removed kind }) ≡ true

behind_bounds_takes : (place kind : ℕ) (start end : Key) (rest : Rest) (x : Placed RangeOp × Rest) → IsBytes rest.bytes
    → behind_bounds place kind start end rest ≡ Ok x → BehindBounds place kind start end rest x
behind_bounds_takes place kind start end rest x fits e =
    let a = bind_ok (number w64 rest) _ x e in
    let b = bind_ok (number w32 a.0.1) _ x a.2 in
    let r : RangeOp = record { start = start; end = end; ts = record { wall = a.0.0; logical = b.0.0 }; value = set_or_removed kind } in
    let g = unless_ok (not (is_range_op r)) (fault_at FileKind.RangeOrder place) (record { place = place; item = r }, b.0.1) x b.2 in
    let t0 = number-takes w64 (2 ^ 64) wide64 rest a.0 fits a.1 in
    let t1 = number-takes w32 (2 ^ 32) wide32 a.0.1 b.0 t0.0.rest_fits b.1 in
    record {
      ts = record { wall = a.0.0; logical = b.0.0 };
      left = b.0.1;
      is = g.1;
      taken = Takes-then rest.bytes (to_be_bytes w64 a.0.0) (a.0.1).bytes (to_be_bytes w32 b.0.0) (b.0.1).bytes t0.0 t1.0;
      form = not-false _ g.0;
    }

record Bounds (rest : Rest) (x : Placed RangeOp × Rest) : Type 0 where
  kind : ℕ
  start : Key
  end : Key
  left : Rest
  taken : Takes rest.bytes ((kind ∷ with_length start) ++ with_length end) left.bytes
  kind_limit : kind ≤ 1
  start_limit : length start ≤ max_bound_length
  end_limit : length end ≤ max_bound_length
  behind : BehindBounds rest.place kind start end left x

bounds_take : (rest : Rest) (x : Placed RangeOp × Rest) → IsBytes rest.bytes → range_at rest ≡ Ok x → Bounds rest x
bounds_take rest x fits e =
    let a = bind_ok (kind_at (fault_at FileKind.RangeOrder rest.place) rest) _ x e in
    let b = bind_ok (counted max_bound_length (fault_at FileKind.RangeOrder rest.place) a.0.1) _ x a.2 in
    let c = bind_ok (counted max_bound_length (fault_at FileKind.RangeOrder rest.place) b.0.1) _ x b.2 in
    let t0 = kind-takes (fault_at FileKind.RangeOrder rest.place) rest a.0 fits a.1 in
    let t1 = counted-takes max_bound_length (fault_at FileKind.RangeOrder rest.place) a.0.1 b.0 t0.0.rest_fits b.1 in
    let t2 = counted-takes max_bound_length (fault_at FileKind.RangeOrder rest.place) b.0.1 c.0 t1.0.rest_fits c.1 in
    let front : Takes rest.bytes (a.0.0 ∷ with_length b.0.0) (b.0.1).bytes = Takes-then rest.bytes (a.0.0 ∷ []) (a.0.1).bytes (with_length b.0.0) (b.0.1).bytes t0.0 t1.0 in
    record {
      kind = a.0.0;
      start = b.0.0;
      end = c.0.0;
      left = c.0.1;
      taken = Takes-then rest.bytes (a.0.0 ∷ with_length b.0.0) (b.0.1).bytes (with_length c.0.0) (c.0.1).bytes front t2.0;
      kind_limit = t0.1;
      start_limit = t1.1;
      end_limit = t2.1;
      behind = behind_bounds_takes rest.place a.0.0 b.0.0 c.0.0 c.0.1 x t2.0.rest_fits c.2;
    }

-- a range operation that is read was written, and may stand there
pub range-takes : (rest : Rest) (x : Placed RangeOp × Rest) → IsBytes rest.bytes
    → range_at rest ≡ Ok x → Takes rest.bytes (range_bytes (x.0).item) (x.1).bytes × IsRunRange (x.0).item
range-takes rest x fits e =
    let b : Bounds rest x = bounds_take rest x fits e in
    let d : BehindBounds rest.place b.kind b.start b.end b.left x = b.behind in
    let set = set_or_removed-kind b.kind b.kind_limit in
    let whole : Takes rest.bytes (((b.kind ∷ with_length b.start) ++ with_length b.end) ++ (to_be_bytes w64 d.ts.wall ++ to_be_bytes w32 d.ts.logical)) d.left.bytes =
    Takes-then rest.bytes ((b.kind ∷ with_length b.start) ++ with_length b.end) b.left.bytes (to_be_bytes w64 d.ts.wall ++ to_be_bytes w32 d.ts.logical) d.left.bytes b.taken d.taken in
    let grouped : Takes rest.bytes ((((b.kind ∷ with_length b.start) ++ with_length b.end) ++ to_be_bytes w64 d.ts.wall) ++ to_be_bytes w32 d.ts.logical) d.left.bytes =
    subst (λ (text : List ℕ). Takes rest.bytes text d.left.bytes) (sym (append_assoc ((b.kind ∷ with_length b.start) ++ with_length b.end) (to_be_bytes w64 d.ts.wall) (to_be_bytes w32 d.ts.logical))) whole in
    let kind : Takes rest.bytes ((((kind_byte (set_or_removed b.kind) ∷ with_length b.start) ++ with_length b.end) ++ to_be_bytes w64 d.ts.wall) ++ to_be_bytes w32 d.ts.logical) d.left.bytes =
    subst (λ (k : ℕ). Takes rest.bytes ((((k ∷ with_length b.start) ++ with_length b.end) ++ to_be_bytes w64 d.ts.wall) ++ to_be_bytes w32 d.ts.logical) d.left.bytes) (sym set.0) grouped in
    subst (λ (y : Placed RangeOp × Rest). Takes rest.bytes (range_bytes (y.0).item) (y.1).bytes × IsRunRange (y.0).item) d.is
    (kind, record { start = b.start_limit; end = b.end_limit; value = set.1; form = d.form })

-- range operations that a run may have
abbrev pub AreRunRanges : List RangeOp → Type 0
AreRunRanges [] = ⊤
AreRunRanges (r ∷ rs) = IsRunRange r × AreRunRanges rs

-- range operations that are read were written, are as many as were asked for, and may stand there
pub ranges-take : (n : ℕ) (rest : Rest) (x : List (Placed RangeOp) × Rest) → IsBytes rest.bytes
    → ranges_at n rest ≡ Ok x
    → Takes rest.bytes (flat_map range_bytes (items_of x.0)) (x.1).bytes × (length (items_of x.0) ≡ n) × AreRunRanges (items_of x.0)
ranges-take zero rest x fits e =
    subst (λ (y : List (Placed RangeOp) × Rest). Takes rest.bytes (flat_map range_bytes (items_of y.0)) (y.1).bytes × (length (items_of y.0) ≡ 0) × AreRunRanges (items_of y.0))
    (ok_is ([], rest) x e) (record { parts = refl; rest_fits = fits }, refl, tt)
ranges-take (suc n) rest x fits e =
    let a = bind_ok (range_at rest) _ x e in
    let b = bind_ok (ranges_at n a.0.1) _ x a.2 in
    let first = range-takes rest a.0 fits a.1 in
    let others = ranges-take n a.0.1 b.0 first.0.rest_fits b.1 in
    let both = Takes-then rest.bytes (range_bytes (a.0.0).item) (a.0.1).bytes (flat_map range_bytes (items_of b.0.0)) (b.0.1).bytes first.0 others.0 in
    subst (λ (y : List (Placed RangeOp) × Rest). Takes rest.bytes (flat_map range_bytes (items_of y.0)) (y.1).bytes × (length (items_of y.0) ≡ suc n) × AreRunRanges (items_of y.0))
    (ok_is (a.0.0 ∷ b.0.0, b.0.1) x b.2) (rw flat_map-cons both, ap suc others.1, (first.1, others.2))

-- ---- what is read was written: runs

-- a run that has bytes
pub record IsReadable (r : Run) : Type 0 where
  pub point_count : length r.points < 2 ^ 64
  pub range_count : length r.ranges < 2 ^ 64
  pub points : AreRunPoints None r.points
  pub ranges : AreRunRanges r.ranges

-- what is read behind the counts
abbrev behind_counts : ℕ → ℕ → Rest → Result PlacedRun RunFault
behind_counts points ranges rest =
    points_at points None rest >>= λ ps. ranges_at ranges ps.1 >>= λ rs.
    unless_fault (ltb 0 (length (rs.1).bytes)) (fault_at FileKind.Trailing (rs.1).place) (record { points = ps.0; ranges = rs.0 })

record BehindCounts (points ranges : ℕ) (rest : Rest) (q : PlacedRun) : Type 0 where
  ps : List (Placed Point)
  rs : List (Placed RangeOp)
  is : record { points = ps; ranges = rs } ≡ q
  bytes_are : rest.bytes ≡ flat_map point_bytes (items_of ps) ++ flat_map range_bytes (items_of rs)
  point_count : length (items_of ps) ≡ points
  range_count : length (items_of rs) ≡ ranges
  are_points : AreRunPoints None (items_of ps)
  are_ranges : AreRunRanges (items_of rs)

behind_counts_takes : (points ranges : ℕ) (rest : Rest) (q : PlacedRun) → IsBytes rest.bytes → behind_counts points ranges rest ≡ Ok q → BehindCounts points ranges rest q
behind_counts_takes points ranges rest q fits e =
    let a = bind_ok (points_at points None rest) _ q e in
    let b = bind_ok (ranges_at ranges a.0.1) _ q a.2 in
    let g = unless_ok (ltb 0 (length (b.0.1).bytes)) (fault_at FileKind.Trailing (b.0.1).place) (record { points = a.0.0; ranges = b.0.0 }) q b.2 in
    let t0 = points-take points None rest a.0 fits a.1 in
    let t1 = ranges-take ranges a.0.1 b.0 t0.0.rest_fits b.1 in
    let ended : Takes (a.0.1).bytes (flat_map range_bytes (items_of b.0.0)) [] = subst (Takes (a.0.1).bytes (flat_map range_bytes (items_of b.0.0))) (none_left (b.0.1).bytes g.0) t1.0 in
    let whole = Takes-then rest.bytes (flat_map point_bytes (items_of a.0.0)) (a.0.1).bytes (flat_map range_bytes (items_of b.0.0)) [] t0.0 ended in
    record {
      ps = a.0.0;
      rs = b.0.0;
      is = g.1;
      bytes_are = whole.parts ∙ append-nil (flat_map point_bytes (items_of a.0.0) ++ flat_map range_bytes (items_of b.0.0));
      point_count = t0.1;
      range_count = t1.1;
      are_points = t0.2;
      are_ranges = t1.2;
    }

record Head (bytes : List ℕ) (q : PlacedRun) : Type 0 where
  points : ℕ
  ranges : ℕ
  left : Rest
  taken : bytes ≡ magic ++ (to_be_bytes w64 points ++ (to_be_bytes w64 ranges ++ left.bytes))
  point_limit : points < 2 ^ 64
  range_limit : ranges < 2 ^ 64
  behind : BehindCounts points ranges left q

head_takes : (bytes : List ℕ) (q : PlacedRun) → IsBytes bytes → read_run bytes ≡ Ok q → Head bytes q
unfolding read_run
head_takes bytes q fits e =
    let z = bind_ok (head_at (record { place = 0; bytes = bytes })) _ q e in
    let a = bind_ok (field 8 (record { place = 0; bytes = bytes })) _ z.0 z.1 in
    let k = bind_ok (unless_fault (not (bytes_eq a.0.0 magic)) (fault_at FileKind.Magic 0) a.0) _ z.0 a.2 in
    let g = unless_ok (not (bytes_eq a.0.0 magic)) (fault_at FileKind.Magic 0) a.0 k.0 k.1 in
    let b = bind_ok (number w64 k.0.1) _ z.0 k.2 in
    let c = bind_ok (number w64 b.0.1) _ z.0 b.2 in
    let made : (ℕ × ℕ) × Rest = ((b.0.0, c.0.0), c.0.1) in
    let is : made ≡ z.0 = ok_is made z.0 c.2 in
    let t0 = field-takes 8 (record { place = 0; bytes = bytes }) a.0 fits a.1 in
    let known : a.0.0 ≡ magic = (bytes_eq-Decides a.0.0 magic).0 (not-false _ g.0) in
    let named : Takes bytes magic (a.0.1).bytes = subst (λ (text : List ℕ). Takes bytes text (a.0.1).bytes) known t0.0 in
    let passed : Takes bytes magic (k.0.1).bytes = subst (λ (y : List ℕ × Rest). Takes bytes magic (y.1).bytes) g.1 named in
    let t1 = number-takes w64 (2 ^ 64) wide64 k.0.1 b.0 passed.rest_fits b.1 in
    let t2 = number-takes w64 (2 ^ 64) wide64 b.0.1 c.0 t1.0.rest_fits c.1 in
    let behind : behind_counts b.0.0 c.0.0 c.0.1 ≡ Ok q = ap (λ (x : (ℕ × ℕ) × Rest). behind_counts (x.0).0 (x.0).1 x.1) is ∙ z.2 in
    record {
      points = b.0.0;
      ranges = c.0.0;
      left = c.0.1;
      taken = passed.parts ∙ ap (λ (xs : List ℕ). magic ++ xs) (t1.0.parts ∙ ap (λ (xs : List ℕ). to_be_bytes w64 b.0.0 ++ xs) t2.0.parts);
      point_limit = t1.1;
      range_limit = t2.1;
      behind = behind_counts_takes b.0.0 c.0.0 c.0.1 q t2.0.rest_fits behind;
    }

-- the bytes are the bytes of a run
pub record IsSpelled (bytes : List ℕ) (r : Run) : Type 0 where
  pub bytes_are : bytes ≡ run_bytes r
  pub is_run : IsReadable r

regroup : (a b c d e : List ℕ) → (((a ++ b) ++ c) ++ d) ++ e ≡ a ++ (b ++ (c ++ (d ++ e)))
regroup a b c d e = simp append_assoc

whole_bytes : (ps : List Point) (rs : List RangeOp) (points ranges : ℕ) (bytes rest : List ℕ)
    → bytes ≡ magic ++ (to_be_bytes w64 points ++ (to_be_bytes w64 ranges ++ rest)) → rest ≡ flat_map point_bytes ps ++ flat_map range_bytes rs
    → length ps ≡ points → length rs ≡ ranges → bytes ≡ run_bytes (record { points = ps; ranges = rs })
unfolding run_bytes
whole_bytes ps rs points ranges bytes rest p q m n =
    p ∙ ap (λ (xs : List ℕ). magic ++ (to_be_bytes w64 points ++ (to_be_bytes w64 ranges ++ xs))) q
    ∙ ap (λ (k : ℕ). magic ++ (to_be_bytes w64 k ++ (to_be_bytes w64 ranges ++ (flat_map point_bytes ps ++ flat_map range_bytes rs)))) (sym m)
    ∙ ap (λ (k : ℕ). magic ++ (to_be_bytes w64 (length ps) ++ (to_be_bytes w64 k ++ (flat_map point_bytes ps ++ flat_map range_bytes rs)))) (sym n)
    ∙ sym (regroup magic (to_be_bytes w64 (length ps)) (to_be_bytes w64 (length rs)) (flat_map point_bytes ps) (flat_map range_bytes rs))

-- what is read was written
pub IsSpelled-read_run : (bytes : List ℕ) (q : PlacedRun) → IsBytes bytes → read_run bytes ≡ Ok q → IsSpelled bytes (without_places q)
IsSpelled-read_run bytes q fits e =
    let h : Head bytes q = head_takes bytes q fits e in
    let b : BehindCounts h.points h.ranges h.left q = h.behind in
    subst (λ (p : PlacedRun). IsSpelled bytes (without_places p)) b.is (record {
      bytes_are = whole_bytes (items_of b.ps) (items_of b.rs) h.points h.ranges bytes h.left.bytes h.taken b.bytes_are b.point_count b.range_count;
      is_run = record {
        point_count = subst (λ (n : ℕ). n < 2 ^ 64) (sym b.point_count) h.point_limit;
        range_count = subst (λ (n : ℕ). n < 2 ^ 64) (sym b.range_count) h.range_limit;
        points = b.are_points;
        ranges = b.are_ranges;
      };
    })

-- ---- what was written is read again

-- bytes at a place
abbrev at : ℕ → List ℕ → Rest
at place bytes = record { place = place; bytes = bytes }

-- bytes that were written are read again
pub field-again : (n : ℕ) (text left : List ℕ) (place : ℕ) → length text ≡ n → field n (at place (text ++ left)) ≡ Ok (text, at (place + n) left)
field-again n text left place len =
    let long : ltb (length (text ++ left)) n ≡ false = le-ltb _ _ (omega (arith, length-append text left)) in
    rw (long, take_at text left n len, drop_at text left n len) refl

-- a number that was written is read again
pub number-again : (w : Width) (most : ℕ) (wide : IsWide w most) (n : ℕ) (left : List ℕ) (place : ℕ) → n < most
    → number w (at place (to_be_bytes w n ++ left)) ≡ Ok (n, at (place + byte_len w) left)
number-again w most wide n left place lt =
    step _ _ _ _ (field-again (byte_len w) (to_be_bytes w n) left place (wide.len n)) (ap (λ (k : ℕ). Ok (k, at (place + byte_len w) left)) (wide.again n lt))

-- bytes with their length are read again
pub counted-again : (limit : ℕ) (fault : RunFault) (text left : List ℕ) (place : ℕ) → length text ≤ limit → limit < 2 ^ 32
    → counted limit fault (at place (with_length text ++ left)) ≡ Ok (text, at (place + length (with_length text)) left)
counted-again limit fault text left place le lt =
    let first : number w32 (at place (to_be_bytes w32 (length text) ++ (text ++ left))) ≡ Ok (length text, at (place + 4) (text ++ left)) =
    number-again w32 (2 ^ 32) wide32 (length text) (text ++ left) place (omega arith) in
    let second : unless_fault {A = ℕ × Rest} (ltb limit (length text)) fault (length text, at (place + 4) (text ++ left)) ≡ Ok (length text, at (place + 4) (text ++ left)) =
    unless_passes _ fault (length text, at (place + 4) (text ++ left)) (le-ltb limit (length text) le) in
    let third : field (length text) (at (place + 4) (text ++ left)) ≡ Ok (text, at (place + 4 + length text) left) = field-again (length text) text left (place + 4) refl in
    let moved : place + 4 + length text ≡ place + length (with_length text) = omega arith in
    step _ _ _ _ first (step _ _ _ _ second (third ∙ ap (λ (k : ℕ). Ok (text, at k left)) moved))

-- a kind is read again
pub kind-again : (fault : RunFault) (value : Option (List ℕ)) (left : List ℕ) (place : ℕ) → kind_at fault (at place (kind_byte value ∷ left)) ≡ Ok (kind_byte value, at (place + 1) left)
kind-again fault None left place = step _ _ _ _ (field-again 1 (0 ∷ []) left place refl) refl
kind-again fault (Some value) left place = step _ _ _ _ (field-again 1 (1 ∷ []) left place refl) refl

-- a name is read again
pub name-again : (fault : RunFault) (n : Name) (left : List ℕ) (place : ℕ) → IsPointName n
    → name_at fault (at place (with_length (encoded_name n) ++ left)) ≡ Ok (n, at (place + length (with_length (encoded_name n))) left)
name-again fault n left place h =
    let short = length-encoded_name_le n in
    let size : length n.key ≤ max_key_length = h.size in
    let some : 0 < length n.key = h.some in
    let first : number w32 (at place (to_be_bytes w32 (length (encoded_name n)) ++ (encoded_name n ++ left))) ≡ Ok (length (encoded_name n), at (place + 4) (encoded_name n ++ left)) =
    number-again w32 (2 ^ 32) wide32 (length (encoded_name n)) (encoded_name n ++ left) place (omega arith) in
    let second : field (length (encoded_name n)) (at (place + 4) (encoded_name n ++ left)) ≡ Ok (encoded_name n, at (place + 4 + length (encoded_name n)) left) =
    field-again (length (encoded_name n)) (encoded_name n) left (place + 4) refl in
    let third : stored_name fault (name_of (encoded_name n)) ≡ Ok n =
    ap (stored_name fault) (name_of-encoded_name n h.range)
    ∙ unless_passes _ fault n (or_from _ _ (ne_eqb (length n.key) 0 (λ e. omega arith)) (le-ltb max_key_length (length n.key) size)) in
    let moved : place + 4 + length (encoded_name n) ≡ place + length (with_length (encoded_name n)) = omega arith in
    step _ _ _ _ first (step _ _ _ _ second (step _ _ _ _ third (ap (λ (k : ℕ). Ok (n, at k left)) moved)))

-- a value is read again
pub value-again : (fault : RunFault) (value : Option (List ℕ)) (left : List ℕ) (place : ℕ) → IsPointValue value
    → value_at (kind_byte value) fault (at place (value_part value ++ left)) ≡ Ok (value, at (place + length (value_part value)) left)
value-again fault None left place h = ap (λ (k : ℕ). Ok (None, at k left)) (omega arith)
value-again fault (Some value) left place h = step _ _ _ _ (counted-again max_stored_length fault value left place h (omega arith)) refl

-- a point is read again, with its place
pub point-again : (before : Option Name) (p : Point) (left : List ℕ) (place : ℕ) → IsRunPoint before p
    → point_at before (at place (point_bytes p ++ left)) ≡ Ok (record { place = place; item = p }, at (place + length (point_bytes p)) left)
point-again before p left place h =
    let b2 : List ℕ = value_part p.value ++ left in
    let b1 : List ℕ = with_length (encoded_name p.name) ++ b2 in
    let regrouped : point_bytes p ++ left ≡ kind_byte p.value ∷ b1 = append_assoc (kind_byte p.value ∷ with_length (encoded_name p.name)) (value_part p.value) left in
    let n2 : ℕ = place + 1 + length (with_length (encoded_name p.name)) in
    let first : kind_at (fault_at FileKind.Key place) (at place (kind_byte p.value ∷ b1)) ≡ Ok (kind_byte p.value, at (place + 1) b1) = kind-again (fault_at FileKind.Key place) p.value b1 place in
    let second : name_at (fault_at FileKind.Key place) (at (place + 1) b1) ≡ Ok (p.name, at n2 b2) = name-again (fault_at FileKind.Key place) p.name b2 (place + 1) h.name in
    let third : unless_fault {A = Name × Rest} (not (is_next before p.name)) (fault_at FileKind.Order place) (p.name, at n2 b2) ≡ Ok (p.name, at n2 b2) =
    unless_passes _ (fault_at FileKind.Order place) (p.name, at n2 b2) (not_from_true _ h.next) in
    let fourth : value_at (kind_byte p.value) (fault_at FileKind.Value place) (at n2 b2) ≡ Ok (p.value, at (n2 + length (value_part p.value)) left) =
    value-again (fault_at FileKind.Value place) p.value left n2 h.value in
    let moved : n2 + length (value_part p.value) ≡ place + length (point_bytes p) =
    omega (arith, length-append (kind_byte p.value ∷ with_length (encoded_name p.name)) (value_part p.value)) in
    ap (λ (bytes : List ℕ). point_at before (at place bytes)) regrouped
    ∙ step _ _ _ _ first (step _ _ _ _ second (step _ _ _ _ third (step _ _ _ _ fourth (ap (λ (k : ℕ). Ok (record { place = place; item = p }, at k left)) moved))))

module _ {A : Type 0} (spelled : A → List ℕ) where
  -- entries with their places, the first at the place
  abbrev pub placed_from : ℕ → List A → List (Placed A)
  placed_from place [] = []
  placed_from place (x ∷ xs) = record { place = place; item = x } ∷ placed_from (place + length (spelled x)) xs

  -- entries with their places are the entries
  pub items_of-placed_from : (place : ℕ) (xs : List A) → items_of (placed_from place xs) ≡ xs
  items_of-placed_from place [] = refl
  items_of-placed_from place (x ∷ xs) = ap (λ (ys : List A). x ∷ ys) (items_of-placed_from (place + length (spelled x)) xs)

-- points are read again, each with its place
pub points-again : (ps : List Point) (before : Option Name) (left : List ℕ) (place : ℕ) → AreRunPoints before ps
    → points_at (length ps) before (at place (flat_map point_bytes ps ++ left)) ≡ Ok (placed_from point_bytes place ps, at (place + length (flat_map point_bytes ps)) left)
points-again [] before left place h = ap (λ (k : ℕ). Ok ([], at k left)) (omega arith)
points-again (p ∷ ps) before left place h =
    let regrouped : flat_map point_bytes (p ∷ ps) ++ left ≡ point_bytes p ++ (flat_map point_bytes ps ++ left) =
    ap (λ (xs : List ℕ). xs ++ left) (flat_map-cons point_bytes p ps) ∙ append_assoc (point_bytes p) (flat_map point_bytes ps) left in
    let next : ℕ = place + length (point_bytes p) in
    let first = point-again before p (flat_map point_bytes ps ++ left) place h.0 in
    let others = points-again ps (Some p.name) left next h.1 in
    let moved : next + length (flat_map point_bytes ps) ≡ place + length (flat_map point_bytes (p ∷ ps)) =
    omega (arith, ap length (flat_map-cons point_bytes p ps), length-append (point_bytes p) (flat_map point_bytes ps)) in
    ap (λ (bytes : List ℕ). points_at (suc (length ps)) before (at place bytes)) regrouped
    ∙ step _ _ _ _ first (step _ _ _ _ others (ap (λ (k : ℕ). Ok (placed_from point_bytes place (p ∷ ps), at k left)) moved))

set_or_removed-kind_byte : (value : Option (List ℕ)) → IsRangeValue value → set_or_removed (kind_byte value) ≡ value
set_or_removed-kind_byte None h = refl
set_or_removed-kind_byte (Some []) h = refl
set_or_removed-kind_byte (Some (b ∷ bs)) h = absurd (omega arith)

time_of_range : (r : RangeOp) → is_range_op r ≡ true → is_in_range r.ts ≡ true
time_of_range r h = (and_parts (is_below r.start r.end && not (is_no_time r.ts)) (is_in_range r.ts) h).1

range_regroup : (a b c d e : List ℕ) → (((a ++ b) ++ c) ++ d) ++ e ≡ a ++ (b ++ (c ++ (d ++ e)))
range_regroup a b c d e = simp append_assoc

-- a range operation is read again, with its place
pub range-again : (r : RangeOp) (left : List ℕ) (place : ℕ) → IsRunRange r
    → range_at (at place (range_bytes r ++ left)) ≡ Ok (record { place = place; item = r }, at (place + length (range_bytes r)) left)
range-again r left place h =
    let far = in_range r.ts (time_of_range r h.form) in
    let fault : RunFault = fault_at FileKind.RangeOrder place in
    let b4 : List ℕ = to_be_bytes w32 r.ts.logical ++ left in
    let b3 : List ℕ = to_be_bytes w64 r.ts.wall ++ b4 in
    let b2 : List ℕ = with_length r.end ++ b3 in
    let b1 : List ℕ = with_length r.start ++ b2 in
    let n2 : ℕ = place + 1 + length (with_length r.start) in
    let n3 : ℕ = n2 + length (with_length r.end) in
    let regrouped : range_bytes r ++ left ≡ kind_byte r.value ∷ b1 = range_regroup (kind_byte r.value ∷ with_length r.start) (with_length r.end) (to_be_bytes w64 r.ts.wall) (to_be_bytes w32 r.ts.logical) left in
    let first : kind_at fault (at place (kind_byte r.value ∷ b1)) ≡ Ok (kind_byte r.value, at (place + 1) b1) = kind-again fault r.value b1 place in
    let second : counted max_bound_length fault (at (place + 1) b1) ≡ Ok (r.start, at n2 b2) = counted-again max_bound_length fault r.start b2 (place + 1) h.start (omega arith) in
    let third : counted max_bound_length fault (at n2 b2) ≡ Ok (r.end, at n3 b3) = counted-again max_bound_length fault r.end b3 n2 h.end (omega arith) in
    let fourth : number w64 (at n3 b3) ≡ Ok (r.ts.wall, at (n3 + 8) b4) = number-again w64 (2 ^ 64) wide64 r.ts.wall b4 n3 (omega arith) in
    let fifth : number w32 (at (n3 + 8) b4) ≡ Ok (r.ts.logical, at (n3 + 8 + 4) left) = number-again w32 (2 ^ 32) wide32 r.ts.logical left (n3 + 8) (omega arith) in
    let value : set_or_removed (kind_byte r.value) ≡ r.value = set_or_removed-kind_byte r.value h.value in
    let made : record { start = r.start; end = r.end; ts = r.ts; value = set_or_removed (kind_byte r.value) } ≡ r = λ i. record { start = r.start; end = r.end; ts = r.ts; value = value i } in
    let moved : n3 + 8 + 4 ≡ place + length (range_bytes r) =
    omega (
      arith,
      length-append (((kind_byte r.value ∷ with_length r.start) ++ with_length r.end) ++ to_be_bytes w64 r.ts.wall) (to_be_bytes w32 r.ts.logical),
      length-append ((kind_byte r.value ∷ with_length r.start) ++ with_length r.end) (to_be_bytes w64 r.ts.wall),
      length-append (kind_byte r.value ∷ with_length r.start) (with_length r.end),
    ) in
    let sixth : unless_fault (not (is_range_op (record { start = r.start; end = r.end; ts = r.ts; value = set_or_removed (kind_byte r.value) }))) fault
    (record { place = place; item = record { start = r.start; end = r.end; ts = r.ts; value = set_or_removed (kind_byte r.value) } }, at (n3 + 8 + 4) left)
    ≡ Ok (record { place = place; item = r }, at (place + length (range_bytes r)) left) =
    ap (λ (x : RangeOp). unless_fault (not (is_range_op x)) fault (record { place = place; item = x }, at (n3 + 8 + 4) left)) made
    ∙ unless_passes _ fault (record { place = place; item = r }, at (n3 + 8 + 4) left) (not_from_true _ h.form)
    ∙ ap (λ (k : ℕ). Ok (record { place = place; item = r }, at k left)) moved in
    ap (λ (bytes : List ℕ). range_at (at place bytes)) regrouped
    ∙ step _ _ _ _ first (step _ _ _ _ second (step _ _ _ _ third (step _ _ _ _ fourth (step _ _ _ _ fifth sixth))))

-- range operations are read again, each with its place
pub ranges-again : (rs : List RangeOp) (left : List ℕ) (place : ℕ) → AreRunRanges rs
    → ranges_at (length rs) (at place (flat_map range_bytes rs ++ left)) ≡ Ok (placed_from range_bytes place rs, at (place + length (flat_map range_bytes rs)) left)
ranges-again [] left place h = ap (λ (k : ℕ). Ok ([], at k left)) (omega arith)
ranges-again (r ∷ rs) left place h =
    let regrouped : flat_map range_bytes (r ∷ rs) ++ left ≡ range_bytes r ++ (flat_map range_bytes rs ++ left) =
    ap (λ (xs : List ℕ). xs ++ left) (flat_map-cons range_bytes r rs) ∙ append_assoc (range_bytes r) (flat_map range_bytes rs) left in
    let next : ℕ = place + length (range_bytes r) in
    let first = range-again r (flat_map range_bytes rs ++ left) place h.0 in
    let others = ranges-again rs left next h.1 in
    let moved : next + length (flat_map range_bytes rs) ≡ place + length (flat_map range_bytes (r ∷ rs)) =
    omega (arith, ap length (flat_map-cons range_bytes r rs), length-append (range_bytes r) (flat_map range_bytes rs)) in
    ap (λ (bytes : List ℕ). ranges_at (suc (length rs)) (at place bytes)) regrouped
    ∙ step _ _ _ _ first (step _ _ _ _ others (ap (λ (k : ℕ). Ok (placed_from range_bytes place (r ∷ rs), at k left)) moved))

-- the run with the place of each entry: the points begin at 24, and the range operations behind them
abbrev pub placed_run : Run → PlacedRun
placed_run r = record {
  points = placed_from point_bytes 24 r.points;
  ranges = placed_from range_bytes (24 + length (flat_map point_bytes r.points)) r.ranges;
}

-- a run with its places is the run
pub without_places-placed_run : (r : Run) → without_places (placed_run r) ≡ r
without_places-placed_run r =
    let ps = items_of-placed_from point_bytes 24 r.points in
    let rs = items_of-placed_from range_bytes (24 + length (flat_map point_bytes r.points)) r.ranges in
    λ i. record { points = ps i; ranges = rs i }

-- the counts are read again
head_again : (points ranges : ℕ) (left : List ℕ) → points < 2 ^ 64 → ranges < 2 ^ 64
    → head_at (at 0 (magic ++ (to_be_bytes w64 points ++ (to_be_bytes w64 ranges ++ left)))) ≡ Ok ((points, ranges), at 24 left)
head_again points ranges left few_points few_ranges =
    let b2 : List ℕ = to_be_bytes w64 ranges ++ left in
    let b1 : List ℕ = to_be_bytes w64 points ++ b2 in
    let first : field 8 (at 0 (magic ++ b1)) ≡ Ok (magic, at 8 b1) = field-again 8 magic b1 0 refl in
    let second : number w64 (at 8 b1) ≡ Ok (points, at 16 b2) = number-again w64 (2 ^ 64) wide64 points b2 8 few_points in
    let third : number w64 (at 16 b2) ≡ Ok (ranges, at 24 left) = number-again w64 (2 ^ 64) wide64 ranges left 16 few_ranges in
    step (field 8 (at 0 (magic ++ b1))) (λ head. unless_fault (not (bytes_eq head.0 magic)) (fault_at FileKind.Magic 0) head >>= λ known. number w64 known.1 >>= λ points. number w64 points.1 >>= λ ranges. Ok ((points.0, ranges.0), ranges.1))
    (magic, at 8 b1) _ first (step _ _ _ _ second (step _ _ _ _ third refl))

counts_again : (bytes : List ℕ) (counts : (ℕ × ℕ) × Rest) (read : Result PlacedRun RunFault) → head_at (at 0 bytes) ≡ Ok counts
    → behind_counts (counts.0).0 (counts.0).1 counts.1 ≡ read → read_run bytes ≡ read
unfolding read_run
counts_again bytes counts read first behind = step (head_at (at 0 bytes)) (λ (x : (ℕ × ℕ) × Rest). behind_counts (x.0).0 (x.0).1 x.1) counts read first behind

-- a run is read again, each entry with its place
pub read_run-run_bytes : (r : Run) → IsReadable r → read_run (run_bytes r) ≡ Ok (placed_run r)
unfolding run_bytes
read_run-run_bytes r h =
    let b4 : List ℕ = flat_map range_bytes r.ranges in
    let b3 : List ℕ = flat_map point_bytes r.points ++ b4 in
    let b2 : List ℕ = to_be_bytes w64 (length r.ranges) ++ b3 in
    let b1 : List ℕ = to_be_bytes w64 (length r.points) ++ b2 in
    let n4 : ℕ = 24 + length (flat_map point_bytes r.points) in
    let third : points_at (length r.points) None (at 24 b3) ≡ Ok (placed_from point_bytes 24 r.points, at n4 b4) = points-again r.points None b4 24 h.points in
    let fourth : ranges_at (length r.ranges) (at n4 b4) ≡ Ok (placed_from range_bytes n4 r.ranges, at (n4 + length b4) []) =
    ap (λ (bytes : List ℕ). ranges_at (length r.ranges) (at n4 bytes)) (sym (append-nil b4)) ∙ ranges-again r.ranges [] n4 h.ranges in
    let all : behind_counts (length r.points) (length r.ranges) (at 24 b3) ≡ Ok (placed_run r) = step _ _ _ _ third (step _ _ _ _ fourth refl) in
    ap read_run (regroup magic (to_be_bytes w64 (length r.points)) (to_be_bytes w64 (length r.ranges)) (flat_map point_bytes r.points) b4)
    ∙ counts_again (magic ++ b1) ((length r.points, length r.ranges), at 24 b3) (Ok (placed_run r))
    (head_again (length r.points) (length r.ranges) b3 h.point_count h.range_count) all

-- a run is read again
pub run_of-run_bytes : (r : Run) → IsReadable r → run_of (run_bytes r) ≡ Ok r
run_of-run_bytes r h = ap run_from (read_run-run_bytes r h) ∙ ap (λ (x : Run). Ok x) (without_places-placed_run r)

-- the same for a run without its places
run_from_ok : (read : Result PlacedRun RunFault) (r : Run) → run_from read ≡ Ok r → (q : PlacedRun) × (read ≡ Ok q) × (without_places q ≡ r)
run_from_ok (Ok q) r e = (q, refl, cc)
run_from_ok (Err fault) r e = absurd cc

-- a run that is read was written
pub IsSpelled-run_of : (bytes : List ℕ) (r : Run) → IsBytes bytes → run_of bytes ≡ Ok r → IsSpelled bytes r
IsSpelled-run_of bytes r fits e =
    let q = run_from_ok (read_run bytes) r e in
    subst (IsSpelled bytes) q.2 (IsSpelled-read_run bytes q.0 fits q.1)
