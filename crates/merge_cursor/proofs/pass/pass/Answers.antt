use Rattle.std.proofs.Common.{◌≡◌, ◌++◌, ◌∷◌, ℕ, List, length, sym, ap, subst, ◌∙◌, arith}
use Rattle.std.specs.Prelude.{Some, None, IsSome, IsTrue}
use Rattle.mvcc_key.specs.Points.{Point}
use Rattle.mvcc_key.specs.Encoded.{name_in}
use Rattle.merge_cursor.specs.views.Moves.{takes_look}
use Rattle.merge_cursor.specs.views.Standing.{Standing}
use Rattle.merge_cursor.proofs.HeadLaws.{head-IsName, has_head, head_name, no_head}
use Rattle.merge_cursor.proofs.PassLaws.{IsParted, parted-head, parted-here, parted-passed, parted-looks}
use Rattle.merge_cursor.proofs.pass.pass.Goals as goal

-- a list by its front, the element there, and the others
parted : {X : Type 0} (parts newer rest older : List X) (here : X) (current : ℕ) → parts ≡ newer ++ rest → length newer ≡ current → rest ≡ here ∷ older → IsParted parts newer here older current
parted parts newer rest older here current whole count is = record { whole = whole ∙ ap (λ (xs : List _). newer ++ xs) is; count = count }

pub returns-in_default-key-clause-parts : goal.returns-in_default-key-clause-parts
returns-in_default-key-clause-parts g c = λ p at.
    let here = c.in-Some.here.now in
    let split = c.split_at_mut-rest in
    let by : IsParted c.args.parts.now split.result.0.now here c.in-Some.older.now c.args.current =
    parted c.args.parts.now split.result.0.now split.result.1.now c.in-Some.older.now here c.args.current split.ensures.value split.ensures.front_len c.in-Some.ensures.cases.0 in
    let head = parted-head g.C.Cursor.points g.C.Cursor.place g.C.Cursor.is_part c.args.parts.now split.result.0.now here c.in-Some.older.now c.args.current by in
    let none = no_head (g.C.Cursor.points here) (g.C.Cursor.place here) c.in_default-key.ensures in
    absurd cc

pub returns-in_default-key-clause-some : goal.returns-in_default-key-clause-some
returns-in_default-key-clause-some g c = λ s at due.
    let here = c.in-Some.here.now in
    let split = c.split_at_mut-rest in
    let by : IsParted c.args.parts.now split.result.0.now here c.in-Some.older.now c.args.current =
    parted c.args.parts.now split.result.0.now split.result.1.now c.in-Some.older.now here c.args.current split.ensures.value split.ensures.front_len c.in-Some.ensures.cases.0 in
    let head = parted-head g.C.Cursor.points g.C.Cursor.place g.C.Cursor.is_part c.args.parts.now split.result.0.now here c.in-Some.older.now c.args.current by in
    let none = no_head (g.C.Cursor.points here) (g.C.Cursor.place here) c.in_default-key.ensures in
    absurd (let some : IsSome {T = Point} None = subst IsSome (head ∙ none) c.requires.here in cc)

pub pass_key-requires-clause-key : goal.pass_key-requires-clause-key
pass_key-requires-clause-key g c =
    let here = c.in-Some.here.now in
    head-IsName (g.C.Cursor.points here) (g.C.Cursor.place here) c.in-Some-key.key.now (g.met.C.Cursor.encodable here) c.in-Some-key.ensures

pub returns-clause-parts : goal.returns-clause-parts
returns-clause-parts g c = λ p at.
    let here = c.in-Some.here.now in
    let split = c.split_at_mut-rest in
    let by : IsParted c.args.parts.now split.result.0.now here c.in-Some.older.now c.args.current =
    parted c.args.parts.now split.result.0.now split.result.1.now c.in-Some.older.now here c.args.current split.ensures.value split.ensures.front_len c.in-Some.ensures.cases.0 in
    let head = parted-head g.C.Cursor.points g.C.Cursor.place g.C.Cursor.is_part c.args.parts.now split.result.0.now here c.in-Some.older.now c.args.current by in
    let h = has_head (g.C.Cursor.points here) (g.C.Cursor.place here) c.in-Some-key.key.now (g.met.C.Cursor.encodable here) c.in-Some-key.ensures in
    let one : h.point ≡ p = (let same : Some h.point ≡ Some p = sym h.here ∙ sym head ∙ at in cc) in
    parted-passed g.C.Cursor.points g.C.Cursor.place g.C.Cursor.is_part c.args.parts.now split.result.0.now here c.move_part.new.part c.in-Some.older.now c.pass_key.new.parts c.args.current c.args.to
    (name_in c.in-Some-key.key.now) p by (head_name (g.C.Cursor.points here) (g.C.Cursor.place here) c.in-Some-key.key.now h ∙ ap (λ q. q.name) one) (sym head ∙ at) (c.requires.newest p at)
    c.move_part.ensures.part c.pass_key.ensures.parts

pub returns-clause-some : goal.returns-clause-some
returns-clause-some g c = λ s at due.
    let here = c.in-Some.here.now in
    let split = c.split_at_mut-rest in
    let by : IsParted c.args.parts.now split.result.0.now here c.in-Some.older.now c.args.current =
    parted c.args.parts.now split.result.0.now split.result.1.now c.in-Some.older.now here c.args.current split.ensures.value split.ensures.front_len c.in-Some.ensures.cases.0 in
    let there = parted-here g.C.Cursor.points g.C.Cursor.place g.C.Cursor.is_part c.args.parts.now split.result.0.now here c.in-Some.older.now c.args.current by in
    let one : s ≡ record { points = g.C.Cursor.points here; place = g.C.Cursor.place here; is_part = g.C.Cursor.is_part here } = cc in
    let P : Standing → Type 0 = λ q. IsTrue (takes_look c.args.to q.points q.place) in
    omega (arith, c.move_part.ensures.some (subst P one due), c.pass_key.ensures.later)

pub returns-clause-looks : goal.returns-clause-looks
returns-clause-looks g c = λ p at are.
    let here = c.in-Some.here.now in
    let split = c.split_at_mut-rest in
    let by : IsParted c.args.parts.now split.result.0.now here c.in-Some.older.now c.args.current =
    parted c.args.parts.now split.result.0.now split.result.1.now c.in-Some.older.now here c.args.current split.ensures.value split.ensures.front_len c.in-Some.ensures.cases.0 in
    let head = parted-head g.C.Cursor.points g.C.Cursor.place g.C.Cursor.is_part c.args.parts.now split.result.0.now here c.in-Some.older.now c.args.current by in
    let h = has_head (g.C.Cursor.points here) (g.C.Cursor.place here) c.in-Some-key.key.now (g.met.C.Cursor.encodable here) c.in-Some-key.ensures in
    let one : h.point ≡ p = (let same : Some h.point ≡ Some p = sym h.here ∙ sym head ∙ at in cc) in
    parted-looks g.C.Cursor.points g.C.Cursor.place g.C.Cursor.is_part c.args.parts.now split.result.0.now here c.in-Some.older.now c.args.current c.args.to
    (name_in c.in-Some-key.key.now) p c.args.looks.now c.pass_key.new.looks c.move_part.new.looks by (head_name (g.C.Cursor.points here) (g.C.Cursor.place here) c.in-Some-key.key.now h ∙ ap (λ q. q.name) one) (sym head ∙ at)
    c.pass_key.ensures.looks c.move_part.ensures.looks are
