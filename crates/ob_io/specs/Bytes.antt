-- What a read and a write do to the bytes on the other side, where these are told.
use Rattle.std.specs.Prelude.{◌≡◌, ℕ, ◌<◌, ◌≤◌, List, [], ◌++◌, length, take, drop, Option, option_map, IfSome}

-- A read put n bytes at the front of the room and left the rest of the room as it
-- was. They were the first of those to come; n is 0 only at the end, or without room.
pub record Reads (left_before left_now : Option (List ℕ)) (room_before room_now : List ℕ) (n : ℕ) : Type 0 where
  pub fits : n ≤ length room_before
  pub outside : drop n room_now ≡ drop n room_before
  pub bytes : IfSome left_before (λ left. (n ≤ length left) × (take n room_now ≡ take n left))
  pub rest : left_now ≡ option_map (drop n) left_before
  pub at_end : n ≡ 0 → 0 < length room_before → IfSome left_before (λ left. left ≡ [])

-- A write took n bytes from the front of the piece, at least one unless the piece is empty.
pub record Writes (written_before written_now : Option (List ℕ)) (piece : List ℕ) (n : ℕ) : Type 0 where
  pub fits : n ≤ length piece
  pub some : 0 < length piece → 0 < n
  pub written : written_now ≡ option_map (λ before. before ++ take n piece) written_before
