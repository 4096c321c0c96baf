use Rattle.std.proofs.Common.{◌∙◌, sym}
use Rattle.range_key.proofs.PutLaws.{pieces-put}
use Rattle.range_key.proofs.planned.Change.put_in.Goals as goal

pub returns : goal.returns
returns c =
    pieces-put c.args.self.low c.args.self.high c.min-both.result c.len-come.result c.append.new.fragments.len c.len.result c.args.fragments.now.items c.args.self.pieces.items
    c.exchange.new.fragments.items c.exchange.new.pieces.items c.append.new.fragments.items c.turn_right.new.fragments.items c.turn_left.new.fragments.items c.truncate.new.self.items
    c.requires.within.ordered c.requires.within.within (c.len-come.ensures ∙ c.args.self.pieces.ok.0) c.min-both.ensures
    (sym c.append.new.fragments.ok.0) (sym c.turn_left.new.fragments.ok.0 ∙ sym c.len.ensures)
    c.exchange.ensures.items c.exchange.ensures.pieces c.append.ensures c.turn_right.ensures c.turn_left.ensures c.truncate.ensures.items
