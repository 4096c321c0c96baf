use Rattle.std.proofs.Common.{◌≡◌, Bool, true, false, ℕ, sym, ap, ◌∙◌, refl}
use Rattle.std.specs.Prelude.{◌&&◌, not, List, take, drop}
use Rattle.std.specs.Int.{w32, w64, from_be_bytes}
use Rattle.mvcc_key.specs.Order.{Timestamp, is_no_time, is_in_range, is_before}
use Rattle.mvcc_key.specs.views.Seen.{time_of}
use Rattle.mvcc_value.specs.Encoding as words
use Rattle.mvcc_value.proofs.decoding.local_in.Goals as goal

-- what is not kept is no local timestamp
unkept : (none range before : Bool) → (not none && before) ≡ false → (not none && range && before) ≡ false
unkept true range before h = refl
unkept false true before h = h
unkept false false before h = refl

pub returns-else-is_kept : goal.returns-else-is_kept
returns-else-is_kept c =
    let ts : Timestamp = time_of c.args.ts in
    let local : Timestamp = time_of c.in_ok-local.local in
    let wall : c.read_u64-wall.result ≡ from_be_bytes w64 (take 8 (drop 5 c.args.header.now)) = c.read_u64-wall.ensures ∙ ap (λ (b : List ℕ). from_be_bytes w64 (take 8 b)) c.split_at.ensures.back in
    let logical : c.read_u32-logical.result ≡ from_be_bytes w32 (take 4 (drop 13 c.args.header.now)) = c.read_u32-logical.ensures ∙ ap (λ (b : List ℕ). from_be_bytes w32 (take 4 b)) c.split_at-2.ensures.back in
    let is : words.header_time c.args.header.now ≡ local = sym (c.in_ok-local.ensures.parts ∙ λ i. record { wall = wall i; logical = logical i }) in
    ap (words.is_local ts) is ∙ unkept (is_no_time local) (is_in_range local) (is_before local ts) (sym c.is_kept.ensures ∙ c.if-is_kept.false)
