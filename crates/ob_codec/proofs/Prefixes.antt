-- What is left to read, after what was read before.
use Rattle.std.proofs.Common.{◌≡◌, List, [], ◌∷◌, ◌++◌, Option, Some, None, refl, ap, append_assoc}
use Rattle.std.specs.Prelude.{option_and_then}

-- a list that was read, after these
abbrev pub listed_after : {X : Type 0} → List X → Option (List X) → Option (List X)
listed_after before None = None
listed_after before (Some xs) = Some (before ++ xs)

pub listed_after-nil : {X : Type 0} (read : Option (List X)) → listed_after [] read ≡ read
listed_after-nil None = refl
listed_after-nil (Some xs) = refl

pub listed_after-more : {X : Type 0} (before : List X) (x : X) (read : Option (List X)) → listed_after (before ++ x ∷ []) read ≡ listed_after before (option_and_then (λ xs. Some (x ∷ xs)) read)
listed_after-more before x None = refl
listed_after-more before x (Some xs) = ap Some (append_assoc before (x ∷ []) xs)

-- a list that was read and the bytes after it, after these
abbrev pub read_after : {X Y : Type 0} → List X → Option (List X × Y) → Option (List X × Y)
read_after before None = None
read_after before (Some xs) = Some (before ++ xs.0, xs.1)

pub read_after-nil : {X Y : Type 0} (read : Option (List X × Y)) → read_after [] read ≡ read
read_after-nil None = refl
read_after-nil (Some xs) = refl

pub read_after-more : {X Y : Type 0} (before : List X) (x : X) (read : Option (List X × Y)) → read_after (before ++ x ∷ []) read ≡ read_after before (option_and_then (λ xs. Some (x ∷ xs.0, xs.1)) read)
read_after-more before x None = refl
read_after-more before x (Some xs) = ap (λ (l : List _). Some (l, xs.1)) (append_assoc before (x ∷ []) xs.0)
