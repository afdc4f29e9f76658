-- The arguments of a call, by position or by name. The first fault is told: of what stands
-- at each position in turn, or is missing there; then a surplus one; then of the names in
-- byte order.
use Rattle.std.specs.Prelude.{◌≡◌, ℕ, ◌+◌, ◌&&◌, nat_lt, List, [], ◌∷◌, ◌++◌, length, codes, bytes_eq, Bool, true, false, not, is_some, if◌then◌else◌, Option, Some, None, Result, Ok, Err, ⊤}
use Rattle.std.specs.List.{list_any}
use Rattle.ob_base.specs.Chain.{◌>>=◌}
use Rattle.ob_base.specs.declared.place.PathStep.{PathStep}
use Rattle.ob_base.specs.declared.place.PathStep.TheVariants.{Key, Item}
use Rattle.serde_json.specs.Data.{Data, null, boolean, array, object, Members, no_members, member}
use Rattle.serde_json.specs.Find.{get_member}
use Rattle.ob_codec.specs.Commands.{listed}

-- What a call expects of an argument: its name, whether it must be given, and its form, by the
-- steps from a value down to where it breaks the form first.
pub record Expected : Type 0 where
  pub name : List ℕ
  pub required : Bool
  pub fault : Data → Option (List PathStep)

-- an argument that was given, and its place
pub record Given : Type 0 where
  pub place : List PathStep
  pub json : Data

-- the place of a position
abbrev pub position_place : ℕ → List PathStep
position_place n = Key (codes "args") ∷ Item n ∷ []

-- the place of a name
abbrev pub name_place : List ℕ → List PathStep
name_place name = Key (codes "kw") ∷ Key name ∷ []

-- `null`; and `false`, where it is not of the form
abbrev pub is_nothing : (Data → Option (List PathStep)) → Data → Bool
is_nothing fault null = true
is_nothing fault (boolean b) = not b && is_some (fault (boolean b))
is_nothing fault _ = false

-- an optional argument that is nothing counts as not given
abbrev pub is_absent : Expected → Data → Bool
is_absent p d = not p.required && is_nothing p.fault d

-- an argument that was looked at: its place and value, or where it is wrong
abbrev pub judged : List PathStep → Data → Option (List PathStep) → Result (Option Given) (List PathStep)
judged place d None = Ok (Some (record { place = place; json = d }))
judged place d (Some below) = Err (place ++ below)

-- an argument at a position: none where it counts as not given
abbrev pub positioned : List PathStep → Expected → Data → Result (Option Given) (List PathStep)
positioned place p d = if is_absent p d then Ok None else judged place d (p.fault d)

-- whether an object has the key; no other value has one
abbrev pub has_key : List ℕ → Data → Bool
has_key name (object members) = is_some (get_member name members)
has_key name _ = false

-- the arguments by position, from this one on; those that must be given and aren't are missing at their number
abbrev pub by_position : Data → ℕ → List Expected → List Data → Result (List (Option Given)) (List PathStep)
by_position kw n [] ds = if nat_lt 0 (length ds) then Err (position_place n) else Ok []
by_position kw n (p ∷ ps) [] = if p.required && not (has_key p.name kw) then Err (position_place n) else (by_position kw (n + 1) ps [] >>= λ rest. Ok (None ∷ rest))
by_position kw n (p ∷ ps) (d ∷ ds) = positioned (position_place n) p d >>= λ first. by_position kw (n + 1) ps ds >>= λ rest. Ok (first ∷ rest)

-- a context is an object, or counts as not given
abbrev pub is_context : Data → Bool
is_context null = true
is_context (boolean b) = not b
is_context (object _) = true
is_context _ = false

-- an argument by its name, beside what was given before: one that counts as not given is passed over
abbrev pub named : List ℕ → Data → Expected → Option Given → Result (Option Given) (List PathStep)
named name d p before = if is_absent p d then Ok before else if is_some before then Err (name_place name) else judged (name_place name) d (p.fault d)

-- the arguments with what a name gives; a name that is no argument is wrong
abbrev pub with_name : List ℕ → Data → List Expected → List (Option Given) → Result (List (Option Given)) (List PathStep)
with_name name d (p ∷ ps) (g ∷ gs) = if bytes_eq p.name name then (named name d p g >>= λ own. Ok (own ∷ gs)) else (with_name name d ps gs >>= λ rest. Ok (g ∷ rest))
with_name name d _ _ = Err (name_place name)

-- the keys of an object with their values, in byte order
abbrev pub entries : Members → List (List ℕ × Data)
entries no_members = []
entries (member key d members) = (key, d) ∷ entries members

-- the arguments with what the names give, in byte order; every call takes a context
abbrev pub by_name : List Expected → List (List ℕ × Data) → List (Option Given) → Result (List (Option Given)) (List PathStep)
by_name ps [] given = Ok given
by_name ps (e ∷ es) given = if bytes_eq e.0 (codes "context") then (if is_context e.1 then by_name ps es given else Err (name_place e.0)) else (with_name e.0 e.1 ps given >>= by_name ps es)

-- the arguments with what the named ones give, which are an object
abbrev pub named_in : List Expected → Data → List (Option Given) → Result (List (Option Given)) (List PathStep)
named_in ps (object members) given = by_name ps (entries members) given
named_in ps _ given = Err (Key (codes "kw") ∷ [])

-- what the positional arguments are, which are a list
abbrev pub items_in : Data → Result (List Data) (List PathStep)
items_in (array items) = Ok (listed items)
items_in _ = Err (Key (codes "args") ∷ [])

-- what each expected of a call is given, or the first place that is wrong
abbrev pub arguments_of : List Expected → (args kw : Data) → Result (List (Option Given)) (List PathStep)
arguments_of ps args kw = items_in args >>= by_position kw 0 ps >>= named_in ps kw

-- one that must be given is given, and one that is given is of its form
abbrev pub IsFit : Expected → Option Given → Type 0
IsFit p None = p.required ≡ false
IsFit p (Some g) = p.fault g.json ≡ None

-- each argument fits what is expected of it
abbrev pub AreFit : List Expected → List (Option Given) → Type 0
AreFit [] [] = ⊤
AreFit (p ∷ ps) (g ∷ gs) = IsFit p g × AreFit ps gs
AreFit _ _ = ⊥

-- whether a name is among these
abbrev pub is_among : List ℕ → List (List ℕ) → Bool
is_among name names = list_any (λ n. bytes_eq n name) names

-- whether no name comes twice
abbrev pub are_apart : List (List ℕ) → Bool
are_apart [] = true
are_apart (name ∷ names) = not (is_among name names) && are_apart names
