-- `Writer::finish` meets its contract: a turn stores one byte more of those that wait, and behind the last one all of
-- them stand there.
-- Assumes nothing.
use Rattle.std.proofs.Common.{◌≡◌, ℕ, ◌+◌, ◌-◌, ◌*◌, ◌/◌, ◌%◌, ◌^◌, List, ◌++◌, length, take, drop, set, ap, ◌∙◌, ap₂, arith, le-leb}
use Rattle.packing.specs.Packing.{bytes_taken}
use Rattle.packing.specs.Writing.{stored, wait_from}
use Rattle.packing.proofs.Storing.{written, written_more, rest_more, part_written, bytes_top}
use borrow.Rule.Slice.PartMut.{put_mid}
use Rattle.packing.proofs.writing.Writer.finish.Goals as goal

pub returns-clause-image_after : goal.returns-clause-image_after
returns-clause-image_after c =
    let inv = c.loop-byte.invariant in
    let image = c.args.image.now in
    let waits = c.args.self.place % 64 in
    let first = wait_from c.args.self.place in
    let n = bytes_taken waits in
    let v = c.padded-rest.result in
    let part : first + c.div_ceil.result - first ≡ n = omega (arith, c.div_ceil.ensures) in
    let all : c.loop-byte.byte-index ≡ n = omega (arith, part, c.loop-byte-test.false) in
    rw (le-leb (bytes_taken c.args.self.place) (length image) (omega arith))
    (ap (put_mid first (first + c.div_ceil.result - first) image) inv.1
    ∙ ap₂ (λ (k m : ℕ). put_mid first k image (written (take k (drop first image)) v m)) part all
    ∙ part_written image first n v (omega arith)
    ∙ ap (λ (x : ℕ). stored image first n (x / 2 ^ (64 - 8 * n))) c.padded-rest.ensures
    ∙ ap (λ (l : List ℕ). take first image ++ (l ++ drop (first + n) image)) (bytes_top c.args.self.waiting waits n (omega arith) (omega arith)))

pub loop-byte-preserved : goal.loop-byte-preserved
loop-byte-preserved c =
    let inv = c.loop-byte.invariant in
    let v = c.padded-rest.result in
    let m = c.loop-byte.byte-index in
    let first = wait_from c.args.self.place in
    let part = take (first + c.div_ceil.result - first) (drop first c.args.image.now) in (
      ap (λ (x : ℕ). x * 256 % 2 ^ 64) inv.0 ∙ rest_more part v m,
      ap₂ (λ (l : List ℕ) (x : ℕ). set l m (x / 2 ^ 56)) inv.1 inv.0 ∙ written_more part v m (omega arith) (omega (arith, c.loop-byte-test.true)),
    )
