-- A part that is read is the part that was written, and what was written is read again.
use Rattle.std.proofs.Common.{◌≡◌, ℕ, suc, ◌+◌, ◌^◌, ◌<◌, ◌⊎◌, Bool, true, false, cond, ltb, List, [], ◌∷◌, ◌++◌, length, get_or, take, drop, Option, Some, None, refl, sym, ap, subst, ◌∙◌, append_assoc, arith, inl, inr}
use Rattle.std.specs.Prelude.{option_and_then}
use Rattle.std.specs.Int.{Width, w16, w32, w64, byte_len, from_be_bytes, to_be_bytes}
use Rattle.std.specs.Str.{bytes_eq}
use Rattle.std.proofs.lemmas.Bool.{cases_lt, le-ltb}
use Rattle.std.proofs.lemmas.List.{take_at, drop_at, take-append-drop, length-append, length-take, get_or-drop, get_or-take, get_or_past}
use Rattle.std.proofs.lemmas.Nat.{be_bytes_2, be_bytes_4, be_bytes_8, from_be_bytes-to_be_bytes_2, from_be_bytes-to_be_bytes_4, from_be_bytes-to_be_bytes_8}
use Rattle.std.proofs.lemmas.Option.{cond_some, same_Some}
use Rattle.std.proofs.lemmas.Slice.Eq.{bytes_eq-Decides}
use Rattle.ob_codec.specs.KeptReading.{first_byte, body_part, body_front, body_number}

-- each item is a byte
abbrev pub IsBytes : List ℕ → Type 0
IsBytes bytes = (i : ℕ) → get_or bytes i 0 < 256

IsBytes-drop : (n : ℕ) (bytes : List ℕ) → IsBytes bytes → IsBytes (drop n bytes)
IsBytes-drop n bytes h i = rw get_or-drop (h (n + i))

IsBytes-take : (n : ℕ) (bytes : List ℕ) → IsBytes bytes → IsBytes (take n bytes)
IsBytes-take n bytes h i =
    elim (cases_lt i n) [
      | inl lt ↦ rw (get_or-take n bytes i 0 lt) (h i)
      | inr le ↦ rw (get_or_past (take n bytes) i 0 (omega (arith, length-take n bytes))) (omega arith)
    ]

-- the value of a step that read something
pub bind_some : {A B : Type 0} (r : Option A) (f : A → Option B) (y : B) → (option_and_then f r) ≡ Some y → (x : A) × (r ≡ Some x) × (f x ≡ Some y)
bind_some (Some x) f y e = (x, refl, e)
bind_some None f y e = absurd cc

-- and what the steps after it read
pub bind_at : {A B : Type 0} (r : Option A) (f : A → Option B) (x : A) → r ≡ Some x → (option_and_then f r) ≡ f x
bind_at r f x e = ap (λ (o : Option _). option_and_then f o) e

-- which way a test went
pub chosen : {A : Type 0} (b : Bool) (x y z : A) → cond b x y ≡ z → ((b ≡ true) × (x ≡ z)) ⊎ ((b ≡ false) × (y ≡ z))
chosen true x y z e = inl (refl, e)
chosen false x y z e = inr (refl, e)

-- what a reader took from the front
pub record Takes (bytes text rest : List ℕ) : Type 0 where
  pub parts : bytes ≡ text ++ rest
  pub rest_fits : IsBytes rest

pub Takes-then : (a x b y c : List ℕ) → Takes a x b → Takes b y c → Takes a (x ++ y) c
Takes-then a x b y c p q = record { parts = p.parts ∙ ap (λ (t : List ℕ). x ++ t) q.parts ∙ sym (append_assoc x y c); rest_fits = q.rest_fits }

-- ---- bytes and fronts

pub first_takes : (bytes : List ℕ) (x : ℕ × List ℕ) → IsBytes bytes → first_byte bytes ≡ Some x → Takes bytes (x.0 ∷ []) x.1
first_takes [] x fits e = absurd cc
first_takes (b ∷ bytes) x fits e =
    subst (λ (y : ℕ × List ℕ). Takes (b ∷ bytes) (y.0 ∷ []) y.1) (same_Some (b, bytes) x e) (record { parts = refl; rest_fits = λ i. fits (suc i) })

pub part_takes : (n : ℕ) (bytes : List ℕ) (x : List ℕ × List ℕ) → IsBytes bytes → body_part n bytes ≡ Some x → Takes bytes x.0 x.1 × (length x.0 ≡ n)
part_takes n bytes x fits e =
    elim (cases_lt (length bytes) n) [
      | inl lt ↦ absurd (let t : ltb (length bytes) n ≡ true = grind arith in cc)
      | inr le ↦ (let f : ltb (length bytes) n ≡ false = le-ltb _ _ le in
          let same : (take n bytes, drop n bytes) ≡ x = same_Some _ _ (sym (rw f refl) ∙ e) in
          subst (λ (y : List ℕ × List ℕ). Takes bytes y.0 y.1 × (length y.0 ≡ n)) same
          (record { parts = sym (take-append-drop n bytes); rest_fits = IsBytes-drop n bytes fits }, omega (arith, length-take n bytes)))
    ]

pub part_again : (text rest : List ℕ) → body_part (length text) (text ++ rest) ≡ Some (text, rest)
part_again text rest =
    let long : ltb (length (text ++ rest)) (length text) ≡ false = le-ltb _ _ (omega (arith, length-append text rest)) in
    rw (long, take_at text rest (length text) refl, drop_at text rest (length text) refl) refl

pub front_takes : (front bytes rest : List ℕ) → IsBytes bytes → body_front front bytes ≡ Some rest → Takes bytes front rest
front_takes front bytes rest fits e =
    let g = cond_some (bytes_eq (take (length front) bytes) front) (drop (length front) bytes) rest e in
    let same : take (length front) bytes ≡ front = (bytes_eq-Decides (take (length front) bytes) front).0 g.0 in
    record { parts = sym (take-append-drop (length front) bytes) ∙ ap (λ (t : List ℕ). t ++ drop (length front) bytes) same ∙ ap (λ (r : List ℕ). front ++ r) g.1; rest_fits = rw (← g.1) (IsBytes-drop (length front) bytes fits) }

pub front_again : (front rest : List ℕ) → body_front front (front ++ rest) ≡ Some rest
front_again front rest =
    let taken = take_at front rest (length front) refl in
    let same : bytes_eq (take (length front) (front ++ rest)) front ≡ true = (bytes_eq-Decides (take (length front) (front ++ rest)) front).1 taken in
    ap (λ (b : Bool). cond b (Some (drop (length front) (front ++ rest))) None) same ∙ ap Some (drop_at front rest (length front) refl)

-- ---- numbers

pub record IsWide (w : Width) (limit : ℕ) : Type 0 where
  pub len : (n : ℕ) → length (to_be_bytes w n) ≡ byte_len w
  pub back : (bytes : List ℕ) → length bytes ≡ byte_len w → IsBytes bytes → to_be_bytes w (from_be_bytes w bytes) ≡ bytes
  pub again : (n : ℕ) → n < limit → from_be_bytes w (to_be_bytes w n) ≡ n
  pub below : (bytes : List ℕ) → IsBytes bytes → from_be_bytes w bytes < limit

pub wide16 : IsWide w16 (2 ^ 16)
wide16 = record {
  len = λ n. refl;
  back = λ bytes len fits. be_bytes_2 bytes _ len fits refl;
  again = λ n lt. from_be_bytes-to_be_bytes_2 n lt;
  below = λ bytes fits. omega (arith, fits 0, fits 1);
}

pub wide32 : IsWide w32 (2 ^ 32)
wide32 = record {
  len = λ n. refl;
  back = λ bytes len fits. be_bytes_4 bytes _ len fits refl;
  again = λ n lt. from_be_bytes-to_be_bytes_4 n lt;
  below = λ bytes fits. omega (arith, fits 0, fits 1, fits 2, fits 3);
}

pub wide64 : IsWide w64 (2 ^ 64)
wide64 = record {
  len = λ n. refl;
  back = λ bytes len fits. be_bytes_8 bytes _ len fits refl;
  again = λ n lt. from_be_bytes-to_be_bytes_8 n lt;
  below = λ bytes fits. omega (arith, fits 0, fits 1, fits 2, fits 3, fits 4, fits 5, fits 6, fits 7);
}

pub number_takes : (w : Width) (limit : ℕ) (wide : IsWide w limit) (bytes : List ℕ) (x : ℕ × List ℕ) → IsBytes bytes → body_number w bytes ≡ Some x → Takes bytes (to_be_bytes w x.0) x.1 × (x.0 < limit)
number_takes w limit wide bytes x fits e =
    elim (cases_lt (length bytes) (byte_len w)) [
      | inl lt ↦ absurd (let t : ltb (length bytes) (byte_len w) ≡ true = grind arith in cc)
      | inr le ↦ (let f : ltb (length bytes) (byte_len w) ≡ false = le-ltb _ _ le in
          let front : to_be_bytes w (from_be_bytes w (take (byte_len w) bytes)) ≡ take (byte_len w) bytes = wide.back (take (byte_len w) bytes) (omega (arith, length-take (byte_len w) bytes)) (IsBytes-take (byte_len w) bytes fits) in
          let same : (from_be_bytes w (take (byte_len w) bytes), drop (byte_len w) bytes) ≡ x = same_Some _ _ (sym (rw f refl) ∙ e) in
          subst (λ (y : ℕ × List ℕ). Takes bytes (to_be_bytes w y.0) y.1 × (y.0 < limit)) same
          (record { parts = rw front (sym (take-append-drop (byte_len w) bytes)); rest_fits = IsBytes-drop (byte_len w) bytes fits }, wide.below (take (byte_len w) bytes) (IsBytes-take (byte_len w) bytes fits)))
    ]

pub number_again : (w : Width) (limit : ℕ) (wide : IsWide w limit) (n : ℕ) (rest : List ℕ) → n < limit → body_number w (to_be_bytes w n ++ rest) ≡ Some (n, rest)
number_again w limit wide n rest lt =
    let len = wide.len n in
    let long : ltb (length (to_be_bytes w n ++ rest)) (byte_len w) ≡ false = le-ltb _ _ (omega (arith, length-append (to_be_bytes w n) rest)) in
    rw (long, take_at (to_be_bytes w n) rest (byte_len w) len, drop_at (to_be_bytes w n) rest (byte_len w) len, wide.again n lt) refl
