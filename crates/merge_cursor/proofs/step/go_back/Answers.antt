use Rattle.std.proofs.Common.{length, sym, ◌∙◌, arith}
use Rattle.std.proofs.lemmas.List.{length-map}
use Rattle.merge_cursor.specs.views.Standing.{standing, standings}
use Rattle.merge_cursor.proofs.ShownLaws.{rising-standings}
use Rattle.merge_cursor.proofs.StepLaws.{current-none, some_none, turns-back, stays-back, leaves-back, none_newer, turn-some, pass-some}
use Rattle.merge_cursor.proofs.step.go_back.Goals as goal

pub returns-then-ahead-clause-parts : goal.returns-then-ahead-clause-parts
returns-then-ahead-clause-parts g c =
    c.move_all.ensures.parts
    ∙ turns-back c.args.ahead (standings g.C.Cursor.points g.C.Cursor.place g.C.Cursor.is_part c.args.parts.now) c.args.current c.if-ahead.true c.requires

pub returns-then-ahead-clause-some : goal.returns-then-ahead-clause-some
returns-then-ahead-clause-some g c = λ some.
    c.move_all.ensures.some (turn-some (standings g.C.Cursor.points g.C.Cursor.place g.C.Cursor.is_part c.args.parts.now) c.args.current some).1

pub returns-then-current-parts-clause-parts : goal.returns-then-current-parts-clause-parts
returns-then-current-parts-clause-parts g c =
    let all = standings g.C.Cursor.points g.C.Cursor.place g.C.Cursor.is_part c.args.parts.now in
    let long = length-map c.args.parts.now (standing g.C.Cursor.points g.C.Cursor.place g.C.Cursor.is_part) in
    stays-back c.args.ahead all c.args.current c.if-ahead.false (current-none all c.args.current (length c.args.parts.now) (sym long) c.if-current-parts.true) c.requires

pub returns-then-current-parts-clause-some : goal.returns-then-current-parts-clause-some
returns-then-current-parts-clause-some g c = λ some.
    let all = standings g.C.Cursor.points g.C.Cursor.place g.C.Cursor.is_part c.args.parts.now in
    let long = length-map c.args.parts.now (standing g.C.Cursor.points g.C.Cursor.place g.C.Cursor.is_part) in
    absurd (some_none _ (current-none all c.args.current (length c.args.parts.now) (sym long) c.if-current-parts.true) some)

pub pass-requires-clause-newest : goal.pass-requires-clause-newest
pass-requires-clause-newest g c = λ p at.
    none_newer c.args.ahead (standings g.C.Cursor.points g.C.Cursor.place g.C.Cursor.is_part c.args.parts.now) c.args.current p c.requires at

pub returns-clause-parts : goal.returns-clause-parts
returns-clause-parts g c =
    let all = standings g.C.Cursor.points g.C.Cursor.place g.C.Cursor.is_part c.args.parts.now in
    let long = length-map c.args.parts.now (standing g.C.Cursor.points g.C.Cursor.place g.C.Cursor.is_part) in
    let within = c.requires.within in
    let differs = c.if-current-parts.false in
    leaves-back c.args.ahead all c.args.current (standings g.C.Cursor.points g.C.Cursor.place g.C.Cursor.is_part c.pass.new.parts) c.if-ahead.false
    (rising-standings g.C.Cursor.points g.C.Cursor.place g.C.Cursor.is_part c.args.parts.now g.met.C.Cursor.rising) c.requires (c.requires.some (omega arith)) c.pass.ensures.parts

pub returns-clause-some : goal.returns-clause-some
returns-clause-some g c = λ some.
    let here = pass-some (standings g.C.Cursor.points g.C.Cursor.place g.C.Cursor.is_part c.args.parts.now) c.args.current some in
    c.pass.ensures.some here.0 here.1 here.2
