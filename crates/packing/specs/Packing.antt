-- Words packed into bytes, most significant bit first, for any width w and any word function
-- (docs/SCOPE.md, "The image").
-- Assumes nothing.
use Rattle.std.specs.Prelude.{ℕ, zero, suc, ◌+◌, ◌-◌, ◌*◌, ◌/◌, ◌%◌, ◌^◌, ◌<◌, List, [], ◌∷◌, ◌++◌, slice_index}

-- the number that the first n words of w bits make, written one after the other
abbrev pub packed : ℕ → (ℕ → ℕ) → ℕ → ℕ
packed w f zero = 0
packed w f (suc n) = packed w f n * 2 ^ w + f n

-- the lowest n bytes of a number, most significant first
abbrev pub to_bytes : ℕ → ℕ → List ℕ
to_bytes zero v = []
to_bytes (suc n) v = to_bytes n (v / 256) ++ (v % 256 ∷ [])

-- the bytes that p bits take
abbrev pub bytes_taken : ℕ → ℕ
bytes_taken p = (p + 7) / 8

-- the bytes that n words of w bits take
abbrev pub byte_count : ℕ → ℕ → ℕ
byte_count w n = bytes_taken (n * w)

-- the zero bits from the last word to the end of the last byte
abbrev pub fill_bits : ℕ → ℕ → ℕ
fill_bits w n = 8 * byte_count w n - n * w

-- n words of w bits, packed with no padding between them, and zero bits to the byte's end
abbrev pub packed_bytes : ℕ → (ℕ → ℕ) → ℕ → List ℕ
packed_bytes w f n = to_bytes (byte_count w n) (packed w f n * 2 ^ fill_bits w n)

-- every element is a byte
abbrev pub Bytes : List ℕ → Type 0
Bytes s = (i : ℕ) → slice_index s i < 256

-- the number that n bytes from place a make
abbrev pub bytes_value : List ℕ → ℕ → ℕ → ℕ
bytes_value s a n = packed 8 (λ (i : ℕ). slice_index s (a + i)) n

-- the last of the bytes that hold the w bits from bit b on; the first is b / 8
abbrev pub last_of : ℕ → ℕ → ℕ
last_of b w = (b + w - 1) / 8

-- the first and the last of the bytes that hold word j
abbrev pub first_byte : ℕ → ℕ → ℕ
first_byte w j = j * w / 8

abbrev pub last_byte : ℕ → ℕ → ℕ
last_byte w j = last_of (j * w) w

-- how many bytes hold word j
abbrev pub span_bytes : ℕ → ℕ → ℕ
span_bytes w j = last_byte w j + 1 - first_byte w j

-- the number that the w bits from bit b on of any byte list make, the most significant bit of byte 0 being bit 0: what
-- the bytes from the first to the last of them hold, less the bits behind them and before them; bytes past the end
-- count as 0
unfoldable pub field_at : List ℕ → ℕ → ℕ → ℕ
field_at s b w = bytes_value s (b / 8) (last_of b w + 1 - b / 8) / 2 ^ (8 * (last_of b w + 1) - (b + w)) % 2 ^ w

-- the word at j: the w bits from bit j × w on
unfoldable pub word_at : ℕ → List ℕ → ℕ → ℕ
word_at w s j = field_at s (j * w) w

-- bit i of a byte list, the most significant bit of byte 0 being bit 0
abbrev pub bit_at : List ℕ → ℕ → ℕ
bit_at s i = slice_index s (i / 8) / 2 ^ (7 - i % 8) % 2

-- bit b of a word of w bits, the most significant bit being bit 0
abbrev pub bit_of_word : ℕ → ℕ → ℕ → ℕ
bit_of_word w v b = v / 2 ^ (w - 1 - b) % 2
