-- The text of an order: entries with commas between them, each a name, or a name and a direction.
use Rattle.std.specs.Prelude.{ℕ, ◌==◌, List, [], ◌∷◌, map, filter, not, codes, if◌then◌else◌, Bool, true, false, Option, Some, None, option_map, option_and_then}
use Rattle.std.specs.List.{slice_split}
use Rattle.std.specs.Str.{bytes_eq, str_to_ascii_lowercase}
use Rattle.ob_definition.specs.declared.orders.OrderEntry.{OrderEntry}

-- a name by which rows are ordered, and whether they fall
pub record Term : Type 0 where
  pub name : List ℕ
  pub descending : Bool

-- a space or a tab
abbrev pub is_space_or_tab : ℕ → Bool
is_space_or_tab b = if b == 32 then true else b == 9

-- nothing stands there
abbrev pub is_empty_piece : List ℕ → Bool
is_empty_piece [] = true
is_empty_piece (b ∷ bytes) = false

-- the words of a text: what stands between spaces and tabs
abbrev pub words : List ℕ → List (List ℕ)
words text = filter (λ piece. not (is_empty_piece piece)) (slice_split is_space_or_tab text)

-- `asc` or `desc`, in any ASCII case
abbrev pub direction : List ℕ → Option Bool
direction word =
    if bytes_eq (str_to_ascii_lowercase word) (codes "asc")
    then Some false
    else (if bytes_eq (str_to_ascii_lowercase word) (codes "desc") then Some true else None)

-- one word is a name, two are a name and a direction
abbrev pub term_of : List (List ℕ) → Option Term
term_of [] = None
term_of (name ∷ []) = Some (record { name = name; descending = false })
term_of (name ∷ word ∷ []) = option_map (λ d. record { name = name; descending = d }) (direction word)
term_of (name ∷ word ∷ more ∷ rest) = None

-- the values of all options, or none where one has none
abbrev pub all_some : {X : Type 0} → List (Option X) → Option (List X)
all_some [] = Some []
all_some (o ∷ os) = option_and_then (λ x. option_map (λ xs. x ∷ xs) (all_some os)) o

-- the terms of an order, none where the text is of another form
abbrev pub order_terms : List ℕ → Option (List Term)
order_terms text = all_some (map (λ piece. term_of (words piece)) (slice_split (λ b. b == 44) text))

-- the term that an entry of the program stands for
abbrev pub term_of_entry : OrderEntry → Term
term_of_entry entry = record { name = entry.name.now; descending = entry.descending }

-- the terms of the entries
abbrev pub terms_of : List OrderEntry → List Term
terms_of entries = map term_of_entry entries
