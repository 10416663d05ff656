-- Texts that are one line: they end in a line feed and have no other. A number, a literal and the line of a refusal
-- are.
-- Assumes nothing.
use mathlib.Core.Path.{◌≡◌, refl, sym, ◌∙◌, ap}
use mathlib.Core.Logic.{⊎_elim}
use mathlib.Core.Bool.{Bool, true, false, not, ◌&&◌, true≢false}
use mathlib.Core.List.Memᴰ
use mathlib.Core.List.{List, [], ◌∷◌, ◌++◌, append_assoc, Memᴰ}
use Prim.Native.Nat.{ℕ}
use native.Mathlib.Omega.{arith}
use lib.Dec.{eqb}
use borrow.Author.Tests.{eqb-false}
use Rattle.std.specs.Prelude.{decimal}
use Rattle.std.specs.Str.{all_ascii_digits}
use Rattle.decimal.proofs.Laws.{decimal_digits, is_all, digit_first}
use Rattle.lines.specs.Lines.{line_feed, space, field, refused_title, refused_text}

-- a text has no line feed
abbrev pub HasNoFeed : List ℕ → Type 0
HasNoFeed t = Memᴰ line_feed t → ⊥

-- a text is one line
abbrev pub IsLine : List ℕ → Type 0
IsLine s = (t : List ℕ) × (s ≡ t ++ line_feed ∷ []) × HasNoFeed t

none_in_nothing : HasNoFeed []
none_in_nothing m = Memᴰ.not-nil m

none_in_more : (b : ℕ) (t : List ℕ) → (line_feed ≡ b → ⊥) → HasNoFeed t → HasNoFeed (b ∷ t)
none_in_more b t f p m = ⊎_elim f p (Memᴰ.cases_cons m)

pub none_in_both : (s t : List ℕ) → HasNoFeed s → HasNoFeed t → HasNoFeed (s ++ t)
none_in_both s t p q m = ⊎_elim p q (Memᴰ.append_cases s m)

-- a literal text, by a test of each of its bytes
abbrev pub no_feed : List ℕ → Bool
no_feed [] = true
no_feed (b ∷ t) = not (eqb line_feed b) && no_feed t

pub none_in_literal : (t : List ℕ) → no_feed t ≡ true → HasNoFeed t
none_in_literal [] e = none_in_nothing
none_in_literal (b ∷ t) e = go (eqb line_feed b) refl e (none_in_literal t)
  where
    go : (x : Bool) → eqb line_feed b ≡ x → (not x && no_feed t) ≡ true
        → (no_feed t ≡ true → HasNoFeed t) → HasNoFeed (b ∷ t)
    go true p q rest = absurd (true≢false (sym q))
    go false p q rest = none_in_more b t (eqb-false line_feed b p) (rest q)

-- a number, and a number and a space
none_in_digits : (s : List ℕ) → all_ascii_digits s ≡ true → HasNoFeed s
none_in_digits [] e = none_in_nothing
none_in_digits (b ∷ s) e =
    let d = digit_first b s e in
    none_in_more b s (λ f. omega (arith, f, d.0)) (none_in_digits s d.2)

none_in_decimal : (n : ℕ) → HasNoFeed (decimal n)
none_in_decimal n = none_in_digits (decimal n) (is_all (decimal n) (decimal_digits n))

pub none_in_field : (n : ℕ) → HasNoFeed (field n space)
unfolding field
none_in_field n = none_in_both (decimal n) (space ∷ []) (none_in_decimal n) (none_in_literal (space ∷ []) refl)

-- a number and a line feed are a line
pub line_field : (n : ℕ) → IsLine (field n line_feed)
unfolding field
line_field n = (decimal n, refl, none_in_decimal n)

-- text before a line makes a longer line
pub line_after : (t s : List ℕ) → HasNoFeed t → IsLine s → IsLine (t ++ s)
line_after t s p l =
    (t ++ l.0, ap (λ (r : List ℕ). t ++ r) l.1 ∙ sym (append_assoc t l.0 (line_feed ∷ [])), none_in_both t l.0 p l.2)

pub line_refused : (number : ℕ) → IsLine (refused_text number)
line_refused number =
    line_after refused_title (field number line_feed) (none_in_literal refused_title refl) (line_field number)
