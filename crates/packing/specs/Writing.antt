-- Words written into a list of bytes one behind the other, most significant bit first, by a writer that keeps the bit
-- place of the next word.
-- A writer has taken `place` bits in. Eight bytes are stored for each 64 of them, and the others, place % 64, wait:
-- they are the lowest bits of `waiting`, and what stands above them does not count.
-- Assumes nothing.
use Rattle.std.specs.Prelude.{ℕ, zero, suc, ◌+◌, ◌-◌, ◌*◌, ◌/◌, ◌%◌, ◌^◌, Bool, cond, not, ◌&&◌, ◌||◌, nat_le}
use Rattle.std.specs.Prelude.{List, ◌++◌, length, take, drop}
use Rattle.packing.specs.Packing.{to_bytes, bytes_taken}
use Rattle.packing.specs.declared.writing.Writer.{Writer}

-- the most bits that are put at once
abbrev pub widest_put : ℕ
widest_put = 32

-- nothing is taken in
abbrev pub started : Writer
started = record { waiting = 0; place = 0 }

-- the lowest n bytes of v stored in s from byte a on
abbrev pub stored : List ℕ → ℕ → ℕ → ℕ → List ℕ
stored s a n v = take a s ++ (to_bytes n v ++ drop (a + n) s)

-- the byte from which on the bits that wait will stand when p are taken in: behind eight bytes for each 64 bits before
-- them
abbrev pub wait_from : ℕ → ℕ
wait_from p = p / 64 * 8

-- whether the p % 64 bits that wait and w bits more reach the 64 of eight bytes
abbrev pub completes : ℕ → ℕ → Bool
completes p w = nat_le 64 (p % 64 + w)

-- the bits that wait, with whatever stands above them, and the lowest w bits of v behind them
abbrev pub joined : Writer → ℕ → ℕ → ℕ
joined r w v = r.waiting * 2 ^ w + v % 2 ^ w

-- the writer when the word is taken in: its place grows by w, as a number of 64 bits. Where 64 bits are complete the
-- whole word is kept, of which only the last bits wait.
abbrev pub taken_in : Writer → ℕ → ℕ → Writer
taken_in r w v =
    record {
      waiting = cond (completes r.place w) (v % 2 ^ w) (joined r w v % 2 ^ 64);
      place = (r.place + w) % 2 ^ 64;
    }

-- and the bytes: where 64 bits are complete they are stored, and those behind them wait
abbrev pub put_bytes : List ℕ → Writer → ℕ → ℕ → List ℕ
put_bytes s r w v =
    cond (completes r.place w) (stored s (wait_from r.place) 8 (joined r w v / 2 ^ (r.place % 64 + w - 64))) s

-- whether a word of w bits can be put into n bytes: it is not too wide, and the eight bytes have room, where any are to
-- be stored; a word that completes none waits whatever the room
abbrev pub can_put : ℕ → Writer → ℕ → Bool
can_put n r w = nat_le w widest_put && (not (completes r.place w) || nat_le (wait_from r.place + 8) n)

-- the writer and the bytes behind a put, on all inputs
abbrev pub put_writer : List ℕ → Writer → ℕ → ℕ → Writer
put_writer s r w v = cond (can_put (length s) r w) (taken_in r w v) r

abbrev pub put_leaves : List ℕ → Writer → ℕ → ℕ → List ℕ
put_leaves s r w v = cond (can_put (length s) r w) (put_bytes s r w v) s

-- the bytes at the end: those of the bits that wait, with zero bits to the byte's end, where all that was taken in has
-- room; else as they were
abbrev pub finish_leaves : List ℕ → Writer → List ℕ
finish_leaves s r =
    let n = bytes_taken (r.place % 64) in
    cond (nat_le (bytes_taken r.place) (length s))
    (stored s (wait_from r.place) n (r.waiting * 2 ^ (8 * n - r.place % 64))) s

-- words f 0, f 1, .. of w bits, put one by one, where they have room: the writer before word j, and the bytes by then,
-- which were s at first
abbrev pub writer_before : ℕ → (ℕ → ℕ) → ℕ → Writer
writer_before w f zero = started
writer_before w f (suc j) = taken_in (writer_before w f j) w (f j)

abbrev pub bytes_before : ℕ → (ℕ → ℕ) → List ℕ → ℕ → List ℕ
bytes_before w f s zero = s
bytes_before w f s (suc j) = put_bytes (bytes_before w f s j) (writer_before w f j) w (f j)
