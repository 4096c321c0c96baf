use Rattle.std.proofs.Common.{ℕ, List, take, arith, sym, ap, ◌∙◌}
use Rattle.std.specs.Int.{w32, w64, from_be_bytes}
use Rattle.mvcc_key.proofs.NamedLaws.{rank-wall, rank-counter, rank-record}
use Rattle.mvcc_key.proofs.encoded.rank_in.Goals as goal

pub returns-in-9 : goal.returns-in-9
returns-in-9 c =
    let rank = (rank-wall c.args.bytes.now c.requires (sym c.last_byte.ensures.value ∙ c.in-9.is)).1 in
    record { wall = c.read_u64.ensures ∙ ap (λ (xs : List ℕ). from_be_bytes w64 (take 8 xs)) c.tail.ensures ∙ rank.by_wall; logical = rank.by_logical }

pub returns-in-13 : goal.returns-in-13
returns-in-13 c =
    let rank = (rank-counter c.args.bytes.now c.requires (sym c.last_byte.ensures.value ∙ c.in-13.is)).1 in
    record {
      wall = c.read_u64-in-13.ensures ∙ ap (λ (xs : List ℕ). from_be_bytes w64 (take 8 xs)) c.tail-in-13.ensures ∙ rank.by_wall;
      logical = c.read_u32.ensures ∙ ap (λ (xs : List ℕ). from_be_bytes w32 (take 4 xs)) c.tail-in-13-2.ensures ∙ rank.by_logical;
    }

pub returns-in_default : goal.returns-in_default
returns-in_default c =
    let rank = rank-record c.args.bytes.now c.requires (λ e. omega arith) (λ e. omega arith) in
    record { wall = rank.by_wall; logical = rank.by_logical }
