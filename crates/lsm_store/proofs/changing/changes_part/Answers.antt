use Rattle.std.proofs.Common.{◌∙◌, ◌+◌, List, ℕ, ap}
use Rattle.std.specs.Prelude.{Some}
use Rattle.mvcc_key.specs.Encoded.{name_in}
use Rattle.mvcc_key.specs.Points.{key_at, count_below}
use Rattle.lsm_store.specs.views.Changing.{is_same_value}
use Rattle.lsm_store.proofs.SoughtLaws.{IsSought, sought-there, sought-gone}
use Rattle.lsm_store.proofs.changing.changes_part.Goals as goal

pub returns-then-is_at : goal.returns-then-is_at
returns-then-is_at g c =
    let key = c.args.op.now.key in
    let value = c.args.op.now.value in
    let now = c.seek_ge.new.cursor in
    let points = g.C.Cursor.points now in
    let before = g.C.Cursor.points c.args.cursor.now in
    let place = g.C.Cursor.place now in
    let is : IsSought key points before place = record {
      named = c.requires;
      rising = g.met.C.Cursor.rising now;
      encodable = g.met.C.Cursor.encodable now;
      same = c.seek_ge.ensures.same;
      at = c.seek_ge.ensures.place ∙ ap (λ (k : List ℕ). count_below (name_in k) before + 1) c.as_slice.ensures;
    } in
    sought-there key value points before place c.is_at.result c.is_same.result is
    (c.is_at.ensures ∙ ap (λ (k : List ℕ). is_same_value (Some k) (key_at points place)) c.as_slice-2.ensures) c.if-is_at.true
    (c.is_same.ensures ∙ ap (is_same_value value) c.value.ensures)

pub returns-else-is_at : goal.returns-else-is_at
returns-else-is_at g c =
    let key = c.args.op.now.key in
    let now = c.seek_ge.new.cursor in
    let points = g.C.Cursor.points now in
    let before = g.C.Cursor.points c.args.cursor.now in
    let place = g.C.Cursor.place now in
    let is : IsSought key points before place = record {
      named = c.requires;
      rising = g.met.C.Cursor.rising now;
      encodable = g.met.C.Cursor.encodable now;
      same = c.seek_ge.ensures.same;
      at = c.seek_ge.ensures.place ∙ ap (λ (k : List ℕ). count_below (name_in k) before + 1) c.as_slice.ensures;
    } in
    sought-gone key c.args.op.now.value points before place c.is_at.result is
    (c.is_at.ensures ∙ ap (λ (k : List ℕ). is_same_value (Some k) (key_at points place)) c.as_slice-2.ensures) c.if-is_at.false
