use Rattle.std.proofs.Common.{◌<◌, ◌+◌, ℕ, length, sym, subst, ◌∙◌, arith}
use Rattle.merge_cursor.specs.views.Standing.{standings, heads}
use Rattle.merge_cursor.proofs.LeadingLaws.{IsLeadingAmong, leading-better, leading-kept, leading-all}
use Rattle.merge_cursor.proofs.HeadLaws.{length-heads}
use Rattle.merge_cursor.proofs.leading.leading.Goals as goal
use Rattle.merge_cursor.proofs.leading.leading.Goals.{then-leads, else-leads}

pub loop-index-preserved : goal.loop-index-preserved
loop-index-preserved g c =
    let all = heads (standings g.C.Cursor.points g.C.Cursor.place g.C.Cursor.is_part c.args.parts.now) in
    let P : ℕ → Type 0 = λ b. IsLeadingAmong c.args.ahead all b (c.loop-index.index + 1) in
    let long = length-heads g.C.Cursor.points g.C.Cursor.place g.C.Cursor.is_part c.args.parts.now in
    let within : c.loop-index.index < length all = omega arith in
    elim c.if-leads.branch [
      | then-leads w ↦ subst P (sym w.best-is) (leading-better c.args.ahead all c.loop-index.best c.loop-index.index within c.loop-index.invariant (sym c.leads.ensures ∙ w.if-leads.true))
      | else-leads w ↦ subst P (sym w.best-is) (leading-kept c.args.ahead all c.loop-index.best c.loop-index.index c.loop-index.invariant (sym c.leads.ensures ∙ w.if-leads.false))
    ]

pub returns : goal.returns
returns g c =
    let all = heads (standings g.C.Cursor.points g.C.Cursor.place g.C.Cursor.is_part c.args.parts.now) in
    let long = length-heads g.C.Cursor.points g.C.Cursor.place g.C.Cursor.is_part c.args.parts.now in
    leading-all c.args.ahead all c.loop-index.best c.loop-index.index (omega arith) c.loop-index.invariant
