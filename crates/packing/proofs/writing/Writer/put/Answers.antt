-- `Writer::put` meets its contract where the check doesn't see it alone: where all waits on, and where eight bytes are
-- stored.
-- Assumes nothing.
use Rattle.std.proofs.Common.{◌≡◌, ℕ, ◌+◌, ◌-◌, ◌*◌, ◌/◌, ◌%◌, ◌^◌, ◌<◌, ◌≤◌, refl, ap, ◌∙◌, ap₂, mod-lt, mul_comm, arith, pow_pos}
use Rattle.packing.specs.Writing.{stored}
use Rattle.packing.proofs.Written.{joined_low, put_waits, put_stores, over, eight, eight_is}
use Rattle.packing.specs.declared.writing.Writer.{Writer}
use Rattle.packing.proofs.writing.Writer.put.Goals as goal

pub returns-then-width-over-clause-value : goal.returns-then-width-over-clause-value
returns-then-width-over-clause-value c =
    let a = c.args in
    rw (c.padded.ensures, c.low-taken.ensures) (put_waits a.image.now a.self a.width a.word (omega arith) (omega (arith, c.if-width-over.true))).0

pub overflow_add-waiting : goal.overflow_add-waiting
overflow_add-waiting c =
    let a = c.args in
    omega (
      arith,
      c.padded.ensures,
      c.low-taken.ensures,
      joined_low a.self.waiting (a.word % 2 ^ a.width) a.width (omega arith) (mod-lt a.word (pow_pos a.width)),
    )

-- the eight bytes that are stored, where 64 bits are complete
stored_eight :
    (w : Writer) (width word o padded high taken : ℕ) → width ≤ 32 → o ≡ (w.place + width) % 2 ^ 64 % 64 → o < width →
    padded ≡ w.waiting * 2 ^ (width - o) % 2 ^ 64 → high ≡ taken / 2 ^ o → taken ≡ word % 2 ^ width → padded + high ≡ eight w width word
stored_eight w width word o padded high taken wide e less d h t =
    let same : o ≡ over w width word = omega arith in
    ap₂ (λ (x y : ℕ). x + y)
    (d ∙ ap (λ (x : ℕ). w.waiting * 2 ^ (width - x) % 2 ^ 64) same)
    (h ∙ ap₂ (λ (x y : ℕ). x / 2 ^ y) t same)

pub returns-clause-image_after : goal.returns-clause-image_after
returns-clause-image_after c =
    let a = c.args in
    let long : 64 ≤ a.self.place % 64 + a.width = omega (arith, c.if-width-over.false) in
    let e = stored_eight a.self a.width a.word _ c.padded-2.result c.high.result c.low-taken.result
    (omega arith) refl c.if-width-over.false c.padded-2.ensures c.high.ensures c.low-taken.ensures in
    c.store_eight.ensures
    ∙ ap₂ (λ (x y : ℕ). stored a.image.now x 8 y) (mul_comm 8 (a.self.place / 64)) e
    ∙ (put_stores a.image.now a.self a.width a.word (omega arith) long (omega (arith, c.if-image-group.false))).1

pub overflow_add-padded : goal.overflow_add-padded
overflow_add-padded c =
    let a = c.args in
    let long : 64 ≤ a.self.place % 64 + a.width = omega (arith, c.if-width-over.false) in
    let e = stored_eight a.self a.width a.word _ c.padded-2.result c.high.result c.low-taken.result
    (omega arith) refl c.if-width-over.false c.padded-2.ensures c.high.ensures c.low-taken.ensures in
    omega (arith, e, eight_is a.self a.width a.word (omega arith) long)
