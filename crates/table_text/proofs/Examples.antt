-- Inputs at the limits of a request, as the definitions compute them.
-- Assumes nothing.
use mathlib.Core.Path.{◌≡◌, refl}
use mathlib.Core.List.{[], ◌∷◌}
use Rattle.lines.specs.Lines.{line_reading}
use Rattle.table_text.specs.TableText.{precision_of}

-- nine digits are a request, leading zeros allowed; ten are not
nine_digits : precision_of (48 ∷ 48 ∷ 48 ∷ 48 ∷ 48 ∷ 48 ∷ 48 ∷ 49 ∷ 50 ∷ 10 ∷ []) ≡ 12
unfolding precision_of line_reading
nine_digits = refl

ten_digits : precision_of (48 ∷ 48 ∷ 48 ∷ 48 ∷ 48 ∷ 48 ∷ 48 ∷ 48 ∷ 49 ∷ 50 ∷ 10 ∷ []) ≡ 0
unfolding precision_of line_reading
ten_digits = refl
