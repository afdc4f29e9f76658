-- What the first fault of a reading says of the tokens, and that a reading without one spells its tree.
use Rattle.std.proofs.Common.{◌≡◌, ℕ, zero, suc, ◌+◌, max, ◌<◌, ◌≤◌, true, false, nat_le, refl, sym, ap, subst, ◌∙◌, inl, inr, arith}
use Rattle.std.proofs.Common.{List, [], ◌∷◌, ◌++◌, append_assoc, append-nil, Option, Some, None}
use Rattle.std.proofs.lemmas.Bool.{le-leb, lt-leb, cases_lt}
use Rattle.ob_base.specs.declared.syntax.Operator.{Operator}
use Rattle.ob_base.specs.declared.syntax.Operator.TheVariants.{Or, Subtract}
use Rattle.ob_syntax.specs.declared.sign.Sign.TheVariants as sign
use Rattle.ob_base.specs.declared.syntax.Prefix.{Prefix}
use Rattle.ob_base.specs.declared.syntax.Prefix.TheVariants.{Not, Minus}
use Rattle.ob_syntax.specs.Lexemes.{Lexeme, name, number, text, sign as a_sign}
use Rattle.ob_base.specs.Syntax.{given_before, Tree, Arguments, integer, a_text, truth, unset, path, prefix, binary, no_arguments, argument, depth}
use Rattle.ob_syntax.specs.Grammar.{level_of, level_of_prefix, left_level, atom_level}
use Rattle.ob_syntax.specs.Grammar.{sign_of_prefix, first_offset, SpellPath, one_name, more_names, Spells, tighter, an_integer, some_text, a_truth, an_unset, a_path, prefixed as spell_prefixed, joined, in_parentheses, a_call}
use Rattle.ob_syntax.specs.Grammar.{SpellArguments, one_argument, more_arguments, IsExpression}
use Rattle.ob_syntax.specs.Parsing.{Pending, before, behind, group, calling, Read, at_hand, State, wanted, named, dotted, had, call_of, deepest_of, takes, least, need, closed, prefixed, begun}
use Rattle.ob_syntax.specs.Parsing.{joined_by, next_in, ended_in, gone_on, called_by, behind_name, behind_dot, moved}
use Rattle.ob_syntax.proofs.Spelling.{given_before-more, depth-given_before, first_offset-append, first_offset-path, offset-prefix, closed-prefix, closed-operator}

-- what binds more tightly serves too
lower : (m k : ℕ) (tree : Tree) (tokens : List Lexeme) → k ≤ m → Spells m tree tokens → Spells k tree tokens
lower zero k tree tokens le s = let same : zero ≡ k = omega arith in subst (λ (n : ℕ). Spells n tree tokens) same s
lower (suc m) k tree tokens le s = elim (cases_lt m k) [
  | inl more ↦ let same : suc m ≡ k = omega arith in subst (λ (n : ℕ). Spells n tree tokens) same s
  | inr less ↦ lower m k tree tokens less (tighter m tree tokens s)
]

level_of_atom : (op : Operator) → level_of op < atom_level
level_of_atom Or = omega arith
level_of_atom _ = omega arith

left_level_of_atom : (op : Operator) → left_level op ≤ atom_level
left_level_of_atom Or = omega arith
left_level_of_atom _ = omega arith

prefix_of_atom : (word : Prefix) → level_of_prefix word ≤ atom_level
prefix_of_atom Not = omega arith
prefix_of_atom Minus = omega arith

takes_of_atom : (pending : List Pending) → takes pending ≤ atom_level
takes_of_atom [] = omega arith
takes_of_atom (before word at ∷ pending) = prefix_of_atom word
takes_of_atom (behind op left at ∷ pending) = level_of_atom op
takes_of_atom (group at ∷ pending) = omega arith
takes_of_atom (calling bytes given at ∷ pending) = omega arith

-- the tokens behind which so much waits, each frame in its place
pub data Opens : List Pending → List Lexeme → Type 0 where
  nothing : Opens [] []
  of_prefix : (word : Prefix) (at : ℕ) (pending : List Pending) (front : List Lexeme) → Opens pending front → takes pending ≤ level_of_prefix word
      → Opens (before word at ∷ pending) (front ++ sign_of_prefix word at ∷ [])
  of_operator : (op : Operator) (left : Tree) (at : ℕ) (pending : List Pending) (front tokens : List Lexeme) → Opens pending front → takes pending ≤ level_of op → Spells (left_level op) left tokens
      → Opens (behind op left (first_offset tokens) ∷ pending) (front ++ (tokens ++ a_sign (sign.Operator op) at ∷ []))
  of_group : (at : ℕ) (pending : List Pending) (front : List Lexeme) → Opens pending front → Opens (group at ∷ pending) (front ++ a_sign sign.Open at ∷ [])
  of_call : (bytes : List ℕ) (given : List Tree) (at open_at : ℕ) (pending : List Pending) (front tokens : List Lexeme) → Opens pending front
      → ((rest : Arguments) (back : List Lexeme) → SpellArguments rest back → SpellArguments (given_before given rest) (tokens ++ back))
      → Opens (calling bytes given at ∷ pending) (front ++ name bytes at ∷ a_sign sign.Open open_at ∷ tokens)

-- the tokens that end all that waits, and the whole that an operand completes
ends : List Pending → List Lexeme
ends [] = []
ends (before word at ∷ pending) = ends pending
ends (behind op left at ∷ pending) = ends pending
ends (group at ∷ pending) = a_sign sign.Close 0 ∷ ends pending
ends (calling bytes given at ∷ pending) = a_sign sign.Close 0 ∷ ends pending

filled : List Pending → Tree → Tree
filled [] tree = tree
filled (before word at ∷ pending) tree = filled pending (prefix word tree at)
filled (behind op left at ∷ pending) tree = filled pending (binary op left tree at)
filled (group at ∷ pending) tree = filled pending tree
filled (calling bytes given at ∷ pending) tree = filled pending (call_of bytes given tree at)

depth-call_of : (bytes : List ℕ) (given : List Tree) (tree : Tree) (at : ℕ) → depth (call_of bytes given tree at) ≡ max (deepest_of given) (depth tree) + 1
depth-call_of bytes given tree at = omega (arith, depth-given_before given (argument tree no_arguments))

depth-filled : (pending : List Pending) (tree : Tree) → depth (filled pending tree) ≡ least pending (depth tree)
unfolding filled
depth-filled [] tree = refl
depth-filled (before word at ∷ pending) tree = depth-filled pending (prefix word tree at)
depth-filled (behind op left at ∷ pending) tree = depth-filled pending (binary op left tree at)
depth-filled (group at ∷ pending) tree = depth-filled pending tree
depth-filled (calling bytes given at ∷ pending) tree = depth-filled pending (call_of bytes given tree at) ∙ ap (least pending) (depth-call_of bytes given tree at)

fills : (pending : List Pending) (front : List Lexeme) → Opens pending front → (tree : Tree) (tokens : List Lexeme) → Spells (takes pending) tree tokens
    → Spells 0 (filled pending tree) (front ++ (tokens ++ ends pending))
unfolding filled ends
fills _ _ nothing tree tokens s = rw (append-nil tokens) s
fills _ _ (of_prefix word at pending front o below) tree tokens s =
    let token = sign_of_prefix word at in
    let more = fills pending front o (prefix word tree at) (token ∷ tokens) (lower (level_of_prefix word) (takes pending) (prefix word tree at) (token ∷ tokens) below (spell_prefixed word tree at tokens s)) in
    rw (append_assoc front (token ∷ []) (tokens ++ ends pending)) more
fills _ _ (of_operator op left at pending front before_it o below sl) tree tokens s =
    let token = a_sign (sign.Operator op) at in
    let all = before_it ++ token ∷ tokens in
    let node = binary op left tree (first_offset before_it) in
    let more = fills pending front o node all (lower (level_of op) (takes pending) node all below (joined op left tree before_it tokens at sl s)) in
    simp append_assoc (simp append_assoc at more)
fills _ _ (of_group at pending front o) tree tokens s =
    let all = a_sign sign.Open at ∷ (tokens ++ a_sign sign.Close 0 ∷ []) in
    let more = fills pending front o tree all (lower atom_level (takes pending) tree all (takes_of_atom pending) (in_parentheses tree tokens at 0 s)) in
    simp append_assoc (simp append_assoc at more)
fills _ _ (of_call bytes given at open_at pending front before_it o goes_on) tree tokens s =
    let inside = before_it ++ tokens in
    let all = name bytes at ∷ a_sign sign.Open open_at ∷ (inside ++ a_sign sign.Close 0 ∷ []) in
    let node = call_of bytes given tree at in
    let spelled = a_call bytes (given_before given (argument tree no_arguments)) inside at open_at 0 (goes_on (argument tree no_arguments) tokens (one_argument tree tokens s)) in
    let more = fills pending front o node all (lower atom_level (takes pending) node all (takes_of_atom pending) spelled) in
    simp append_assoc (simp append_assoc at more)

-- the tokens lead to the state
pub data Reached : State → List Lexeme → Type 0 where
  at_wanted : (pending : List Pending) (front : List Lexeme) → Opens pending front → Reached (wanted pending) front
  at_named : (pending : List Pending) (front : List Lexeme) (names : List (List ℕ)) (tokens : List Lexeme) → Opens pending front → SpellPath names tokens
      → Reached (named pending names (first_offset tokens)) (front ++ tokens)
  at_dotted : (pending : List Pending) (front : List Lexeme) (names : List (List ℕ)) (tokens : List Lexeme) (dot : ℕ) → Opens pending front → SpellPath names tokens
      → Reached (dotted pending names (first_offset tokens)) (front ++ (tokens ++ a_sign sign.Dot dot ∷ []))
  at_had : (pending : List Pending) (front : List Lexeme) (tree : Tree) (tokens : List Lexeme) → Opens pending front → Spells atom_level tree tokens
      → Reached (had (at_hand pending tree (first_offset tokens))) (front ++ tokens)

pub path-more : (names : List (List ℕ)) (tokens : List Lexeme) (dot : ℕ) (bytes : List ℕ) (at : ℕ) → SpellPath names tokens
    → SpellPath (names ++ bytes ∷ []) (tokens ++ a_sign sign.Dot dot ∷ name bytes at ∷ [])
path-more _ _ dot bytes at (one_name first first_at) = more_names first first_at dot (bytes ∷ []) (name bytes at ∷ []) (one_name bytes at)
path-more _ _ dot bytes at (more_names first first_at first_dot names tokens s) =
    more_names first first_at first_dot (names ++ bytes ∷ []) (tokens ++ a_sign sign.Dot dot ∷ name bytes at ∷ []) (path-more names tokens dot bytes at s)

-- a shallow beginning goes on
goes_on_with : (front more : List Lexeme) (tree : Tree) → Spells 0 tree (front ++ more) → (deep : ℕ) → depth tree ≡ deep
    → (rest : List Lexeme) × (whole : Tree) × IsExpression whole (front ++ rest) × (depth whole ≡ deep)
goes_on_with front more tree s deep is = (more, tree, s, is)

pub completes : (state : State) (front : List Lexeme) → Reached state front → (rest : List Lexeme) × (all : Tree) × IsExpression all (front ++ rest) × (depth all ≡ need state)
completes _ _ (at_wanted pending front o) =
    let leaf : Tree = path ([] ∷ []) 0 in
    let tokens : List Lexeme = name [] 0 ∷ [] in
    let spelled = fills pending front o leaf tokens (lower atom_level (takes pending) leaf tokens (takes_of_atom pending) (a_path ([] ∷ []) tokens (one_name [] 0))) in
    (tokens ++ ends pending, filled pending leaf, spelled, depth-filled pending leaf)
completes _ _ (at_named pending front names tokens o s) =
    let leaf = path names (first_offset tokens) in
    let spelled = fills pending front o leaf tokens (lower atom_level (takes pending) leaf tokens (takes_of_atom pending) (a_path names tokens s)) in
    (ends pending, filled pending leaf, rw (append_assoc front tokens (ends pending)) spelled, depth-filled pending leaf)
completes _ _ (at_dotted pending front names tokens dot o s) =
    let longer = names ++ [] ∷ [] in
    let all = tokens ++ a_sign sign.Dot dot ∷ name [] 0 ∷ [] in
    let leaf = path longer (first_offset all) in
    let spelled = fills pending front o leaf all (lower atom_level (takes pending) leaf all (takes_of_atom pending) (a_path longer all (path-more names tokens dot [] 0 s))) in
    (name [] 0 ∷ ends pending, filled pending leaf, simp append_assoc (simp append_assoc at spelled), depth-filled pending leaf)
completes _ _ (at_had pending front tree tokens o s) =
    let spelled = fills pending front o tree tokens (lower atom_level (takes pending) tree tokens (takes_of_atom pending) s) in
    (ends pending, filled pending tree, rw (append_assoc front tokens (ends pending)) spelled, depth-filled pending tree)

-- what is read of tokens, and how tightly it binds at least
pub record IsRead (level : ℕ) (read : Read) (all : List Lexeme) : Type 0 where
  front : List Lexeme
  tokens : List Lexeme
  opens : Opens read.pending front
  spelled : Spells level read.tree tokens
  below : takes read.pending ≤ level
  begins : read.first ≡ first_offset tokens
  parts : all ≡ front ++ tokens

stays : (level : ℕ) (pending : List Pending) (front : List Lexeme) → Opens pending front → (own : ℕ) (tree : Tree) (first : ℕ) (tokens : List Lexeme) → Spells own tree tokens → takes pending ≤ level
    → level ≤ own → first ≡ first_offset tokens → (all : List Lexeme) → all ≡ front ++ tokens → IsRead level (at_hand pending tree first) all
stays level pending front o own tree first tokens s below le begins all parts =
    record { front = front; tokens = tokens; opens = o; spelled = lower own level tree tokens le s; below = below; begins = begins; parts = parts }

-- closing keeps the tokens
closes : (level : ℕ) (pending : List Pending) (front : List Lexeme) → Opens pending front → (own : ℕ) (tree : Tree) (first : ℕ) (tokens : List Lexeme) → Spells own tree tokens → takes pending ≤ own
    → level ≤ own → first ≡ first_offset tokens → (all : List Lexeme) → all ≡ front ++ tokens → IsRead level (closed level pending tree first) all
closes level _ _ nothing own tree first tokens s below le begins all parts = stays level [] [] nothing own tree first tokens s (omega arith) le begins all parts
closes level _ _ (of_prefix word at pending front o under) own tree first tokens s below le begins all parts = elim (cases_lt (level_of_prefix word) level) [
  | inl above ↦
      let test : nat_le level (level_of_prefix word) ≡ false = lt-leb level (level_of_prefix word) above in
      rw test (stays level (before word at ∷ pending) (front ++ sign_of_prefix word at ∷ []) (of_prefix word at pending front o under) own tree first tokens s (omega arith) le begins all parts)
  | inr fits ↦
      let token = sign_of_prefix word at in
      let node = prefix word tree at in
      rw (closed-prefix level word at pending tree first fits)
      (closes level pending front o (level_of_prefix word) node at (token ∷ tokens) (spell_prefixed word tree at tokens (lower own (level_of_prefix word) tree tokens below s)) under fits
      (sym (offset-prefix word at)) all (parts ∙ append_assoc front (token ∷ []) tokens))
]
closes level _ _ (of_operator op left at pending front before_it o under sl) own tree first tokens s below le begins all parts = elim (cases_lt (level_of op) level) [
  | inl above ↦
      let test : nat_le level (level_of op) ≡ false = lt-leb level (level_of op) above in
      let now = behind op left (first_offset before_it) ∷ pending in
      let token = a_sign (sign.Operator op) at in
      rw test (stays level now (front ++ (before_it ++ token ∷ [])) (of_operator op left at pending front before_it o under sl) own tree first tokens s (omega arith) le begins all parts)
  | inr fits ↦
      let token = a_sign (sign.Operator op) at in
      let node = binary op left tree (first_offset before_it) in
      let longer = before_it ++ token ∷ tokens in
      let same : all ≡ front ++ longer = parts ∙ append_assoc front (before_it ++ token ∷ []) tokens ∙ ap (λ (l : List Lexeme). front ++ l) (append_assoc before_it (token ∷ []) tokens) in
      rw (closed-operator level op left (first_offset before_it) pending tree first fits)
      (closes level pending front o (level_of op) node (first_offset before_it) longer (joined op left tree before_it tokens at sl (lower own (suc (level_of op)) tree tokens below s)) under fits
      (sym (first_offset-append (left_level op) left before_it (token ∷ tokens) sl)) all same)
]
closes level _ _ (of_group at pending front o) own tree first tokens s below le begins all parts =
    stays level (group at ∷ pending) (front ++ a_sign sign.Open at ∷ []) (of_group at pending front o) own tree first tokens s (omega arith) le begins all parts
closes level _ _ (of_call bytes given at open_at pending front before_it o goes_on) own tree first tokens s below le begins all parts =
    stays level (calling bytes given at ∷ pending) (front ++ name bytes at ∷ a_sign sign.Open open_at ∷ before_it) (of_call bytes given at open_at pending front before_it o goes_on) own tree first tokens s
    (omega arith) le begins all parts

-- where a token leads, if expressions go on with it
abbrev pub ReachedIf : Option State → List Lexeme → Type 0
ReachedIf None all = Unit {0}
ReachedIf (Some state) all = Reached state all

prefixed-reached : (word : Prefix) (at : ℕ) (pending : List Pending) (front : List Lexeme) → Opens pending front → ReachedIf (prefixed word at pending) (front ++ sign_of_prefix word at ∷ [])
prefixed-reached word at pending front o = elim (cases_lt (level_of_prefix word) (takes pending)) [
  | inl above ↦ let test : nat_le (takes pending) (level_of_prefix word) ≡ false = lt-leb (takes pending) (level_of_prefix word) above in rw test tt
  | inr fits ↦
      let test : nat_le (takes pending) (level_of_prefix word) ≡ true = le-leb (takes pending) (level_of_prefix word) fits in
      rw test (at_wanted (before word at ∷ pending) (front ++ sign_of_prefix word at ∷ []) (of_prefix word at pending front o fits))
]

begun-reached : (pending : List Pending) (front : List Lexeme) → Opens pending front → (token : Lexeme) → ReachedIf (begun pending token) (front ++ token ∷ [])
begun-reached pending front o (number n at) = at_had pending front (integer n at) (number n at ∷ []) o (an_integer n at)
begun-reached pending front o (text bytes at) = at_had pending front (a_text bytes at) (text bytes at ∷ []) o (some_text bytes at)
begun-reached pending front o (name bytes at) = at_named pending front (bytes ∷ []) (name bytes at ∷ []) o (one_name bytes at)
begun-reached pending front o (a_sign (sign.Truth b) at) = at_had pending front (truth b at) (a_sign (sign.Truth b) at ∷ []) o (a_truth b at)
begun-reached pending front o (a_sign sign.Unset at) = at_had pending front (unset at) (a_sign sign.Unset at ∷ []) o (an_unset at)
begun-reached pending front o (a_sign sign.Open at) = at_wanted (group at ∷ pending) (front ++ a_sign sign.Open at ∷ []) (of_group at pending front o)
begun-reached pending front o (a_sign sign.Not at) = prefixed-reached Not at pending front o
begun-reached pending front o (a_sign (sign.Operator Subtract) at) = prefixed-reached Minus at pending front o
begun-reached pending front o _ = tt

joined_by-reached : (op : Operator) (at : ℕ) (read : Read) (all : List Lexeme) → IsRead (left_level op) read all → ReachedIf (joined_by op read) (all ++ a_sign (sign.Operator op) at ∷ [])
joined_by-reached op at read all r = elim (cases_lt (level_of op) (takes read.pending)) [
  | inl above ↦ let test : nat_le (takes read.pending) (level_of op) ≡ false = lt-leb (takes read.pending) (level_of op) above in rw test tt
  | inr fits ↦
      let test : nat_le (takes read.pending) (level_of op) ≡ true = le-leb (takes read.pending) (level_of op) fits in
      let token = a_sign (sign.Operator op) at in
      let next = at_wanted (behind op read.tree (first_offset r.tokens) ∷ read.pending) (r.front ++ (r.tokens ++ token ∷ []))
      (of_operator op read.tree at read.pending r.front r.tokens r.opens fits r.spelled) in
      rw (test, r.begins, r.parts, append_assoc r.front r.tokens (token ∷ [])) next
]

next_in-reached : (pending : List Pending) (front : List Lexeme) → Opens pending front → (tree : Tree) (tokens : List Lexeme) → Spells 0 tree tokens → (comma : ℕ)
    → ReachedIf (next_in pending tree) ((front ++ tokens) ++ a_sign sign.Comma comma ∷ [])
next_in-reached _ _ (of_call bytes given at open_at pending front before_it o goes_on) tree tokens s comma =
    let token = a_sign sign.Comma comma in
    let longer = given ++ tree ∷ [] in
    let inside = before_it ++ (tokens ++ token ∷ []) in
    let goes_on_more : (rest : Arguments) (back : List Lexeme) → SpellArguments rest back → SpellArguments (given_before longer rest) (inside ++ back) =
    λ rest back more. rw (given_before-more given tree rest, append_assoc before_it (tokens ++ token ∷ []) back, append_assoc tokens (token ∷ []) back)
    (goes_on (argument tree rest) (tokens ++ token ∷ back) (more_arguments tree rest tokens back comma s more)) in
    let next = at_wanted (calling bytes longer at ∷ pending) (front ++ name bytes at ∷ a_sign sign.Open open_at ∷ inside)
    (of_call bytes longer at open_at pending front inside o goes_on_more) in
    simp append_assoc next
next_in-reached _ _ _ tree tokens s comma = tt

ended_in-reached : (pending : List Pending) (front : List Lexeme) → Opens pending front → (tree : Tree) (tokens : List Lexeme) → Spells 0 tree tokens → (close_at : ℕ)
    → ReachedIf (ended_in pending tree) ((front ++ tokens) ++ a_sign sign.Close close_at ∷ [])
ended_in-reached _ _ (of_group at pending front o) tree tokens s close_at =
    let all = a_sign sign.Open at ∷ (tokens ++ a_sign sign.Close close_at ∷ []) in
    let next = at_had pending front tree all o (in_parentheses tree tokens at close_at s) in
    simp append_assoc next
ended_in-reached _ _ (of_call bytes given at open_at pending front before_it o goes_on) tree tokens s close_at =
    let inside = before_it ++ tokens in
    let all = name bytes at ∷ a_sign sign.Open open_at ∷ (inside ++ a_sign sign.Close close_at ∷ []) in
    let node = call_of bytes given tree at in
    let spelled = a_call bytes (given_before given (argument tree no_arguments)) inside at open_at close_at (goes_on (argument tree no_arguments) tokens (one_argument tree tokens s)) in
    let next = at_had pending front node all o spelled in
    simp append_assoc (simp append_assoc at next)
ended_in-reached _ _ _ tree tokens s close_at = tt

-- behind an operand
gone_on-reached : (pending : List Pending) (front : List Lexeme) → Opens pending front → (tree : Tree) (tokens : List Lexeme) → Spells atom_level tree tokens → (token : Lexeme)
    → ReachedIf (gone_on (at_hand pending tree (first_offset tokens)) token) ((front ++ tokens) ++ token ∷ [])
gone_on-reached pending front o tree tokens s (a_sign (sign.Operator op) at) =
    joined_by-reached op at (closed (left_level op) pending tree (first_offset tokens)) (front ++ tokens)
    (closes (left_level op) pending front o atom_level tree (first_offset tokens) tokens s (takes_of_atom pending) (left_level_of_atom op) refl (front ++ tokens) refl)
gone_on-reached pending front o tree tokens s (a_sign sign.Comma at) =
    let read = closed 0 pending tree (first_offset tokens) in
    let r : IsRead 0 read (front ++ tokens) = closes 0 pending front o atom_level tree (first_offset tokens) tokens s (takes_of_atom pending) (omega arith) refl (front ++ tokens) refl in
    rw r.parts (next_in-reached read.pending r.front r.opens read.tree r.tokens r.spelled at)
gone_on-reached pending front o tree tokens s (a_sign sign.Close at) =
    let read = closed 0 pending tree (first_offset tokens) in
    let r : IsRead 0 read (front ++ tokens) = closes 0 pending front o atom_level tree (first_offset tokens) tokens s (takes_of_atom pending) (omega arith) refl (front ++ tokens) refl in
    rw r.parts (ended_in-reached read.pending r.front r.opens read.tree r.tokens r.spelled at)
gone_on-reached pending front o tree tokens s _ = tt

called_by-reached : (pending : List Pending) (front : List Lexeme) → Opens pending front → (names : List (List ℕ)) (tokens : List Lexeme) → SpellPath names tokens → (at : ℕ)
    → ReachedIf (called_by pending names (first_offset tokens)) ((front ++ tokens) ++ a_sign sign.Open at ∷ [])
called_by-reached pending front o _ _ (one_name bytes first) at =
    let next = at_wanted (calling bytes [] first ∷ pending) (front ++ name bytes first ∷ a_sign sign.Open at ∷ []) (of_call bytes [] first at pending front [] o (λ rest back more. more)) in
    rw (append_assoc front (name bytes first ∷ []) (a_sign sign.Open at ∷ [])) next
called_by-reached pending front o _ _ (more_names bytes first dot _ _ (one_name second second_at)) at = tt
called_by-reached pending front o _ _ (more_names bytes first dot _ _ (more_names second second_at second_dot names tokens s)) at = tt

behind_name-reached : (pending : List Pending) (front : List Lexeme) → Opens pending front → (names : List (List ℕ)) (tokens : List Lexeme) → SpellPath names tokens → (token : Lexeme)
    → ReachedIf (behind_name pending names (first_offset tokens) token) ((front ++ tokens) ++ token ∷ [])
behind_name-reached pending front o names tokens s (a_sign sign.Dot at) = rw (append_assoc front tokens (a_sign sign.Dot at ∷ [])) (at_dotted pending front names tokens at o s)
behind_name-reached pending front o names tokens s (a_sign sign.Open at) = called_by-reached pending front o names tokens s at
behind_name-reached pending front o names tokens s token = gone_on-reached pending front o (path names (first_offset tokens)) tokens (a_path names tokens s) token

behind_dot-reached : (pending : List Pending) (front : List Lexeme) → Opens pending front → (names : List (List ℕ)) (tokens : List Lexeme) (dot : ℕ) → SpellPath names tokens → (token : Lexeme)
    → ReachedIf (behind_dot pending names (first_offset tokens) token) ((front ++ (tokens ++ a_sign sign.Dot dot ∷ [])) ++ token ∷ [])
behind_dot-reached pending front o names tokens dot s (name bytes at) =
    let behind_it = a_sign sign.Dot dot ∷ name bytes at ∷ [] in
    let next = at_named pending front (names ++ bytes ∷ []) (tokens ++ behind_it) o (path-more names tokens dot bytes at s) in
    rw (← first_offset-path names tokens behind_it s, append_assoc front (tokens ++ a_sign sign.Dot dot ∷ []) (name bytes at ∷ []), append_assoc tokens (a_sign sign.Dot dot ∷ []) (name bytes at ∷ [])) next
behind_dot-reached pending front o names tokens dot s _ = tt

pub moved-reached : (state : State) (front : List Lexeme) → Reached state front → (token : Lexeme) → ReachedIf (moved state token) (front ++ token ∷ [])
moved-reached _ _ (at_wanted pending front o) token = begun-reached pending front o token
moved-reached _ _ (at_named pending front names tokens o s) token = behind_name-reached pending front o names tokens s token
moved-reached _ _ (at_dotted pending front names tokens dot o s) token = behind_dot-reached pending front o names tokens dot s token
moved-reached _ _ (at_had pending front tree tokens o s) token = gone_on-reached pending front o tree tokens s token

pub closed-read : (pending : List Pending) (front : List Lexeme) (tree : Tree) (tokens : List Lexeme) → Opens pending front → Spells atom_level tree tokens
    → IsRead 0 (closed 0 pending tree (first_offset tokens)) (front ++ tokens)
closed-read pending front tree tokens o s = closes 0 pending front o atom_level tree (first_offset tokens) tokens s (takes_of_atom pending) (omega arith) refl (front ++ tokens) refl

front-empty : (pending : List Pending) (front : List Lexeme) → Opens pending front → pending ≡ [] → front ≡ []
front-empty _ _ nothing none = refl
front-empty _ _ (of_prefix word at pending front o under) none = absurd (cc)
front-empty _ _ (of_operator op left at pending front tokens o under sl) none = absurd (cc)
front-empty _ _ (of_group at pending front o) none = absurd (cc)
front-empty _ _ (of_call bytes given at open_at pending front tokens o goes_on) none = absurd (cc)

-- nothing waits, so the tokens spell what is read
pub is_expression : (read : Read) (all : List Lexeme) → IsRead 0 read all → read.pending ≡ [] → IsExpression read.tree all
is_expression read all r none = rw (r.parts, front-empty read.pending r.front r.opens none) r.spelled
