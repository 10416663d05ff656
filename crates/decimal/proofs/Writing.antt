-- Laws of text written at a place, its length and pieces written one after the other; and what calls that put text
-- leave.
-- Assumes nothing.
use mathlib.Core.Path.{◌≡◌, sym, ap, ◌∙◌}
use mathlib.Core.Bool.{Bool, true}
use mathlib.Core.List.{List, ◌++◌, append_assoc}
use Prim.Native.Nat.{ℕ, ◌+◌, ◌≤◌}
use native.Mathlib.Nat.{add_assoc}
use native.Mathlib.Omega.{arith}
use lib.ListN.{length, take, drop, length-append, length-drop}
use lib.Seq.{length-take-le, take_at, drop-append-add, drop-drop}
use borrow.Rule.Slice.PartMut.{put_mid}
use borrow.Author.Tests.{le-leb, leb-true}
use Rattle.decimal.specs.Text.{written}
use Rattle.decimal.specs.declared.text.Text.{Text}
use Rattle.decimal.specs.Inner.{has_room, Room, Puts, Wrote}

module _ (s : List ℕ) (at : ℕ) (t : List ℕ) (fits : at + length t ≤ length s) where
  -- what stands up to the end of the text
  head_length : length (take at s ++ t) ≡ at + length t
  head_length = rw (length-append, length-take-le at s (omega arith))

  -- writing keeps the length
  pub length-written : length (written s at t) ≡ length s
  unfolding written
  length-written = simp (length-append, length-drop, length-take-le at s (omega arith)) (omega arith)

  -- a second piece right after the first: the two are one text
  pub written_more : (u : List ℕ) → written (written s at t) (at + length t) u ≡ written s at (t ++ u)
  unfolding written
  written_more u =
      rw (take_at (take at s ++ t) (drop (at + length t) s) (at + length t) head_length)
      (ap (λ (r : List ℕ). take at s ++ t ++ u ++ r)
      (ap (λ (n : ℕ). drop (n + length u) (take at s ++ t ++ drop (at + length t) s)) (sym head_length)
      ∙ drop-append-add (take at s ++ t) (drop (at + length t) s) (length u)
      ∙ drop-drop (length u) (at + length t) s
      ∙ ap (λ (n : ℕ). drop n s) (add_assoc at (length t) (length u) ∙ ap (λ (n : ℕ). at + n) (sym (length-append t u))))
      ∙ ap (λ (r : List ℕ). r ++ drop (at + length (t ++ u)) s) (append_assoc (take at s) t u))

-- t in place of the bytes of s from `at` on, as many as t has, is t written
pub copied_written : (s : List ℕ) (at : ℕ) (t : List ℕ) {k : ℕ} {u : List ℕ} → k ≡ length t → u ≡ t
    → put_mid at k s u ≡ written s at t
unfolding written
copied_written s at t h e = rw (h, e, drop-drop) (sym (append_assoc (take at s) t (drop (at + length t) s)))

-- what a test of room says where it passed
pub room_fits : (s : Text) (n : ℕ) {room : Bool} → room ≡ has_room s n → room ≡ true → Room s n
room_fits s n e p = leb-true (s.at + n) (length s.out.now) (sym e ∙ p)

-- where there is room for n bytes, a call that asks for it writes its text, and nothing else is asked of it
module _ {s : Text} {n : ℕ} {t : List ℕ} {r : Text} where
  pub puts_room : Room s n → Puts s n t r → Wrote s t r
  puts_room h p =
      let e = le-leb (s.at + n) (length s.out.now) h in
      record { same = p.same; place = rw e at p.place; bytes = rw e at p.bytes }

  pub wrote_puts : Room s n → Wrote s t r → Puts s n t r
  wrote_puts h w =
      let e = le-leb (s.at + n) (length s.out.now) h in
      record { same = w.same; place = rw e w.place; bytes = rw e w.bytes }

module _ {s : Text} {t : List ℕ} {p : Text} (h : Room s (length t)) (w : Wrote s t p) where
  -- what was written takes its room
  pub room_left : (m : ℕ) → Room s (length t + m) → Room p m
  room_left m l = omega (arith, w.place, ap length w.bytes, length-written s.out.now s.at t h)

  -- two calls wrote the two texts as one
  pub wrote_more : {u : List ℕ} {q : Text} → Wrote p u q → Wrote s (t ++ u) q
  wrote_more {u} {q} v =
      record {
        same = v.same ∙ w.same;
        place = omega (arith, v.place, w.place, length-append t u);
        bytes =
            v.bytes
            ∙ ap (λ (x : List ℕ). written x p.at u) w.bytes
            ∙ ap (λ (n : ℕ). written (written s.out.now s.at t) n u) w.place
            ∙ written_more s.out.now s.at t h u;
      }

  -- so did a call after it that asks for room
  pub wrote_then : {u : List ℕ} {n : ℕ} {q : Text} → Room s (length t + n) → Puts p n u q → Wrote s (t ++ u) q
  wrote_then {n = n} l v = wrote_more (puts_room (room_left n l) v)
