use Rattle.std.proofs.Common.{◌≡◌, ◌≢◌, length, refl, ap, ◌∙◌, arith}
use Rattle.std.specs.Prelude.{slice_get, Some, None}
use Rattle.std.proofs.lemmas.Option.{slice_get_read}
use Rattle.mvcc_key.specs.Encoded.{name_in}
use Rattle.merge_cursor.specs.views.Standing.{standings, heads, head_of, precedes}
use Rattle.merge_cursor.proofs.LeadingLaws.{head_of-past}
use Rattle.merge_cursor.proofs.HeadLaws.{head_of-part, length-heads, has_head, no_head, head_name, leads-is, head-IsName}
use Rattle.merge_cursor.proofs.leading.leads.Goals as goal

pub returns-in_default : goal.returns-in_default
returns-in_default g c =
    let x = c.index-parts-index.result in
    let parts = c.args.parts.now in
    let at : slice_get parts c.args.index ≡ Some x = slice_get_read parts (length parts) c.args.index x refl c.requires.index c.index-parts-index.is in
    let here = head_of-part g.C.Cursor.points g.C.Cursor.place g.C.Cursor.is_part parts c.args.index x at in
    leads-is c.args.ahead (heads (standings g.C.Cursor.points g.C.Cursor.place g.C.Cursor.is_part parts)) c.args.index c.args.best None _
    (here ∙ no_head (g.C.Cursor.points x) (g.C.Cursor.place x) c.in_default.ensures) refl

pub returns-then-best-parts : goal.returns-then-best-parts
returns-then-best-parts g c =
    let x = c.index-parts-index.result in
    let parts = c.args.parts.now in
    let all = heads (standings g.C.Cursor.points g.C.Cursor.place g.C.Cursor.is_part parts) in
    let at : slice_get parts c.args.index ≡ Some x = slice_get_read parts (length parts) c.args.index x refl c.requires.index c.index-parts-index.is in
    let here = head_of-part g.C.Cursor.points g.C.Cursor.place g.C.Cursor.is_part parts c.args.index x at in
    let h = has_head (g.C.Cursor.points x) (g.C.Cursor.place x) c.in-Some.key.now (g.met.C.Cursor.encodable x) c.in-Some.ensures in
    let past : head_of all c.args.best ≡ None = head_of-past all c.args.best (omega (arith, length-heads g.C.Cursor.points g.C.Cursor.place g.C.Cursor.is_part parts)) in
    leads-is c.args.ahead all c.args.index c.args.best (Some h.point) None (here ∙ h.here) past

pub comes_before-requires-clause-key : goal.comes_before-requires-clause-key
comes_before-requires-clause-key g c =
    let x = c.index-parts-index.result in
    head-IsName (g.C.Cursor.points x) (g.C.Cursor.place x) c.in-Some.key.now (g.met.C.Cursor.encodable x) c.in-Some.ensures

pub comes_before-requires-clause-other : goal.comes_before-requires-clause-other
comes_before-requires-clause-other g c =
    let y = c.index-parts-best.result in
    head-IsName (g.C.Cursor.points y) (g.C.Cursor.place y) c.in-Some-key.other.now (g.met.C.Cursor.encodable y) c.in-Some-key.ensures

pub returns-in-Some-key : goal.returns-in-Some-key
returns-in-Some-key g c =
    let x = c.index-parts-index.result in
    let y = c.index-parts-best.result in
    let parts = c.args.parts.now in
    let differs : c.args.best ≢ length parts = c.if-best-parts.false in
    let atx : slice_get parts c.args.index ≡ Some x = slice_get_read parts (length parts) c.args.index x refl c.requires.index c.index-parts-index.is in
    let aty : slice_get parts c.args.best ≡ Some y = slice_get_read parts (length parts) c.args.best y refl (omega (arith, c.requires.best)) c.index-parts-best.is in
    let herex = head_of-part g.C.Cursor.points g.C.Cursor.place g.C.Cursor.is_part parts c.args.index x atx in
    let herey = head_of-part g.C.Cursor.points g.C.Cursor.place g.C.Cursor.is_part parts c.args.best y aty in
    let h = has_head (g.C.Cursor.points x) (g.C.Cursor.place x) c.in-Some.key.now (g.met.C.Cursor.encodable x) c.in-Some.ensures in
    let k = has_head (g.C.Cursor.points y) (g.C.Cursor.place y) c.in-Some-key.other.now (g.met.C.Cursor.encodable y) c.in-Some-key.ensures in
    c.comes_before.ensures
    ∙ ap (λ n. precedes c.args.ahead n (name_in c.in-Some-key.other.now)) (head_name (g.C.Cursor.points x) (g.C.Cursor.place x) c.in-Some.key.now h)
    ∙ ap (precedes c.args.ahead h.point.name) (head_name (g.C.Cursor.points y) (g.C.Cursor.place y) c.in-Some-key.other.now k)
    ∙ leads-is c.args.ahead (heads (standings g.C.Cursor.points g.C.Cursor.place g.C.Cursor.is_part parts)) c.args.index c.args.best (Some h.point) (Some k.point) (herex ∙ h.here) (herey ∙ k.here)

pub returns-in-None : goal.returns-in-None
returns-in-None g c =
    let x = c.index-parts-index.result in
    let y = c.index-parts-best.result in
    let parts = c.args.parts.now in
    let differs : c.args.best ≢ length parts = c.if-best-parts.false in
    let atx : slice_get parts c.args.index ≡ Some x = slice_get_read parts (length parts) c.args.index x refl c.requires.index c.index-parts-index.is in
    let aty : slice_get parts c.args.best ≡ Some y = slice_get_read parts (length parts) c.args.best y refl (omega (arith, c.requires.best)) c.index-parts-best.is in
    let herex = head_of-part g.C.Cursor.points g.C.Cursor.place g.C.Cursor.is_part parts c.args.index x atx in
    let herey = head_of-part g.C.Cursor.points g.C.Cursor.place g.C.Cursor.is_part parts c.args.best y aty in
    let h = has_head (g.C.Cursor.points x) (g.C.Cursor.place x) c.in-Some.key.now (g.met.C.Cursor.encodable x) c.in-Some.ensures in
    leads-is c.args.ahead (heads (standings g.C.Cursor.points g.C.Cursor.place g.C.Cursor.is_part parts)) c.args.index c.args.best (Some h.point) None (herex ∙ h.here)
    (herey ∙ no_head (g.C.Cursor.points y) (g.C.Cursor.place y) c.in-None.ensures)
