-- What the reading of tokens, one step a token, says of the trees that they spell: all of a tree that is shallow enough is read.
use Rattle.std.proofs.Common.{◌≡◌, ℕ, suc, ◌+◌, max, ◌<◌, ◌≤◌, true, false, nat_le, refl, sym, ap, ◌∙◌, inl, inr, arith}
use Rattle.std.proofs.Common.{List, [], ◌∷◌, ◌++◌, append_assoc, Some, Result, Ok, Err}
use Rattle.std.proofs.lemmas.Bool.{le-leb, lt-leb, cases_lt}
use Rattle.ob_base.specs.declared.expr_fault.ExprFault.{ExprFault}
use Rattle.ob_base.specs.declared.syntax.Operator.{Operator}
use Rattle.ob_base.specs.declared.syntax.Operator.TheVariants.{Or}
use Rattle.ob_syntax.specs.declared.sign.Sign.TheVariants as sign
use Rattle.ob_base.specs.declared.syntax.Prefix.{Prefix}
use Rattle.ob_base.specs.declared.syntax.Prefix.TheVariants.{Not, Minus}
use Rattle.ob_syntax.specs.Lexemes.{Lexeme, name, number, text, sign as a_sign, offset_of}
use Rattle.ob_base.specs.Syntax.{given_before, Tree, Arguments, integer, a_text, truth, unset, path, prefix, binary, call, no_arguments, argument, depth, depth_of_arguments}
use Rattle.ob_syntax.specs.Grammar.{level_of, level_of_prefix, left_level, atom_level}
use Rattle.ob_syntax.specs.Grammar.{sign_of_prefix, first_offset, SpellPath, one_name, more_names, Spells, tighter, an_integer, some_text, a_truth, an_unset, a_path, prefixed as spell_prefixed, joined, in_parentheses, a_call}
use Rattle.ob_syntax.specs.Grammar.{SpellArguments, one_argument, more_arguments, SpellAtMostOneTree}
use Rattle.ob_syntax.specs.Parsing.{Pending, before, behind, group, calling, Read, at_hand, State, wanted, named, dotted, had, call_of, deepest_of, takes, least, need, closed}
use Rattle.ob_syntax.specs.Parsing.{joined_by, next_in, ended_in, moved, within, stepped, run, closing, finished_by, finished, parsed}

pub depth-positive : (tree : Tree) → 0 < depth tree
depth-positive (prefix word inner at) = omega arith
depth-positive (binary op left right at) = omega arith
depth-positive (call bytes given at) = omega arith
depth-positive _ = omega arith

pub least-mono : (pending : List Pending) (a b : ℕ) → a ≤ b → least pending a ≤ least pending b
least-mono [] a b le = le
least-mono (before word at ∷ pending) a b le = least-mono pending (a + 1) (b + 1) (omega arith)
least-mono (behind op left at ∷ pending) a b le = least-mono pending (max (depth left) a + 1) (max (depth left) b + 1) (omega arith)
least-mono (group at ∷ pending) a b le = least-mono pending a b le
least-mono (calling bytes given at ∷ pending) a b le = least-mono pending (max (deepest_of given) a + 1) (max (deepest_of given) b + 1) (omega arith)

pub given_before-more : (given : List Tree) (tree : Tree) (rest : Arguments) → given_before (given ++ tree ∷ []) rest ≡ given_before given (argument tree rest)
given_before-more [] tree rest = refl
given_before-more (first ∷ given) tree rest = ap (argument first) (given_before-more given tree rest)

pub deepest_of-more : (given : List Tree) (tree : Tree) → deepest_of (given ++ tree ∷ []) ≡ max (deepest_of given) (depth tree)
deepest_of-more [] tree = omega arith
deepest_of-more (first ∷ given) tree = omega (arith, deepest_of-more given tree)

pub depth-given_before : (given : List Tree) (rest : Arguments) → depth_of_arguments (given_before given rest) ≡ max (deepest_of given) (depth_of_arguments rest)
depth-given_before [] rest = omega arith
depth-given_before (first ∷ given) rest = omega (arith, depth-given_before given rest)

-- running on, and one step
pub run-err : (limit : ℕ) (fault : ExprFault) (tokens : List Lexeme) → run limit (Err fault) tokens ≡ Err fault
run-err limit fault [] = refl
run-err limit fault (token ∷ tokens) = refl

pub run-append : (limit : ℕ) (state : Result State ExprFault) (front back : List Lexeme) → run limit state (front ++ back) ≡ run limit (run limit state front) back
run-append limit state [] back = refl
run-append limit (Err fault) (token ∷ front) back = sym (run-err limit fault back)
run-append limit (Ok state) (token ∷ front) back = run-append limit (stepped limit state token) front back

pub run-step : (limit : ℕ) (state : State) (token : Lexeme) (next : State) (tokens : List Lexeme) → moved state token ≡ Some next → need next ≤ limit
    → run limit (Ok state) (token ∷ tokens) ≡ run limit (Ok next) tokens
run-step limit state token next tokens moves fits =
    let test : nat_le (need next) limit ≡ true = le-leb (need next) limit fits in
    let steps : stepped limit state token ≡ Ok next = ap (within limit (offset_of token)) moves ∙ (rw test refl) in
    ap (λ (s : Result State ExprFault). run limit s tokens) steps

-- a token behind what is read goes by what is closed
closing-joined : (state : State) (op : Operator) (at : ℕ) (read : Read) → closing (left_level op) state ≡ Some read → moved state (a_sign (sign.Operator op) at) ≡ joined_by op read
closing-joined (wanted pending) op at read is = absurd (cc)
closing-joined (dotted pending names first) op at read is = absurd (cc)
closing-joined (named pending names first) op at read is =
    let same : closed (left_level op) pending (path names first) first ≡ read = cc in ap (joined_by op) same
closing-joined (had now) op at read is =
    let same : closed (left_level op) now.pending now.tree now.first ≡ read = cc in ap (joined_by op) same

closing-comma : (state : State) (at : ℕ) (read : Read) → closing 0 state ≡ Some read → moved state (a_sign sign.Comma at) ≡ next_in read.pending read.tree
closing-comma (wanted pending) at read is = absurd (cc)
closing-comma (dotted pending names first) at read is = absurd (cc)
closing-comma (named pending names first) at read is =
    let same : closed 0 pending (path names first) first ≡ read = cc in ap (λ (r : Read). next_in r.pending r.tree) same
closing-comma (had now) at read is =
    let same : closed 0 now.pending now.tree now.first ≡ read = cc in ap (λ (r : Read). next_in r.pending r.tree) same

closing-ended : (state : State) (at : ℕ) (read : Read) → closing 0 state ≡ Some read → moved state (a_sign sign.Close at) ≡ ended_in read.pending read.tree
closing-ended (wanted pending) at read is = absurd (cc)
closing-ended (dotted pending names first) at read is = absurd (cc)
closing-ended (named pending names first) at read is =
    let same : closed 0 pending (path names first) first ≡ read = cc in ap (λ (r : Read). ended_in r.pending r.tree) same
closing-ended (had now) at read is =
    let same : closed 0 now.pending now.tree now.first ≡ read = cc in ap (λ (r : Read). ended_in r.pending r.tree) same

-- levels
pub prefix_below : (word : Prefix) (op : Operator) → level_of_prefix word ≤ level_of op → level_of_prefix word < left_level op
prefix_below Not Or below = omega arith
prefix_below Minus Or below = omega arith
prefix_below _ _ below = omega arith

pub level_below : (op : Operator) → level_of op ≤ left_level op
level_below Or = omega arith
level_below _ = omega arith

-- no node binds tightly enough where an operator may come
closed-stays : (pending : List Pending) (op : Operator) (tree : Tree) (first : ℕ) → takes pending ≤ level_of op → closed (left_level op) pending tree first ≡ at_hand pending tree first
closed-stays [] op tree first below = refl
closed-stays (before word at ∷ pending) op tree first below =
    let test : nat_le (left_level op) (level_of_prefix word) ≡ false = lt-leb (left_level op) (level_of_prefix word) (prefix_below word op below) in rw test refl
closed-stays (behind by left at ∷ pending) op tree first below =
    let under : level_of by < left_level op = omega (arith, level_below op) in
    let test : nat_le (left_level op) (level_of by) ≡ false = lt-leb (left_level op) (level_of by) under in rw test refl
closed-stays (group at ∷ pending) op tree first below = refl
closed-stays (calling bytes given at ∷ pending) op tree first below = refl

pub closed-prefix : (level : ℕ) (word : Prefix) (at : ℕ) (pending : List Pending) (tree : Tree) (first : ℕ) → level ≤ level_of_prefix word
    → closed level (before word at ∷ pending) tree first ≡ closed level pending (prefix word tree at) at
closed-prefix level word at pending tree first le =
    let test : nat_le level (level_of_prefix word) ≡ true = le-leb level (level_of_prefix word) le in rw test refl

pub closed-operator : (level : ℕ) (op : Operator) (left : Tree) (at : ℕ) (pending : List Pending) (tree : Tree) (first : ℕ) → level ≤ level_of op
    → closed level (behind op left at ∷ pending) tree first ≡ closed level pending (binary op left tree at) at
closed-operator level op left at pending tree first le =
    let test : nat_le level (level_of op) ≡ true = le-leb level (level_of op) le in rw test refl

-- closing makes nothing deeper than it is
pub least-closed : (level : ℕ) (pending : List Pending) (tree : Tree) (first : ℕ)
    → least (closed level pending tree first).pending (depth (closed level pending tree first).tree) ≡ least pending (depth tree)
least-closed level [] tree first = refl
least-closed level (before word at ∷ pending) tree first = elim (cases_lt (level_of_prefix word) level) [
  | inl above ↦ let test : nat_le level (level_of_prefix word) ≡ false = lt-leb level (level_of_prefix word) above in rw test refl
  | inr fits ↦ rw (closed-prefix level word at pending tree first fits) (least-closed level pending (prefix word tree at) at)
]
least-closed level (behind op left at ∷ pending) tree first = elim (cases_lt (level_of op) level) [
  | inl above ↦ let test : nat_le level (level_of op) ≡ false = lt-leb level (level_of op) above in rw test refl
  | inr fits ↦ rw (closed-operator level op left at pending tree first fits) (least-closed level pending (binary op left tree at) at)
]
least-closed level (group at ∷ pending) tree first = refl
least-closed level (calling bytes given at ∷ pending) tree first = refl

-- where a tree's tokens begin
pub first_offset-path : (names : List (List ℕ)) (front back : List Lexeme) → SpellPath names front → first_offset (front ++ back) ≡ first_offset front
first_offset-path _ _ back (one_name bytes at) = refl
first_offset-path _ _ back (more_names bytes at dot names tokens rest) = refl

pub first_offset-append : (level : ℕ) (tree : Tree) (front back : List Lexeme) → Spells level tree front → first_offset (front ++ back) ≡ first_offset front
first_offset-append _ _ _ back (tighter level tree tokens s) = first_offset-append (suc level) tree tokens back s
first_offset-append _ _ _ back (an_integer n at) = refl
first_offset-append _ _ _ back (some_text bytes at) = refl
first_offset-append _ _ _ back (a_truth b at) = refl
first_offset-append _ _ _ back (an_unset at) = refl
first_offset-append _ _ _ back (a_path names tokens s) = first_offset-path names tokens back s
first_offset-append _ _ _ back (spell_prefixed word inner at tokens s) = refl
first_offset-append _ _ _ back (joined op left right front behind_it at sl sr) =
    let token = a_sign (sign.Operator op) at in
    rw (append_assoc front (token ∷ behind_it) back)
    (first_offset-append (left_level op) left front (token ∷ behind_it ++ back) sl ∙ sym (first_offset-append (left_level op) left front (token ∷ behind_it) sl))
first_offset-append _ _ _ back (in_parentheses tree tokens open_at close_at s) = refl
first_offset-append _ _ _ back (a_call bytes given tokens at open_at close_at s) = refl

pub offset-prefix : (word : Prefix) (at : ℕ) → offset_of (sign_of_prefix word at) ≡ at
offset-prefix Not at = refl
offset-prefix Minus at = refl

moved-prefix : (word : Prefix) (at : ℕ) (pending : List Pending) → takes pending ≤ level_of_prefix word → moved (wanted pending) (sign_of_prefix word at) ≡ Some (wanted (before word at ∷ pending))
moved-prefix Not at pending below = let test : nat_le (takes pending) 2 ≡ true = le-leb (takes pending) 2 below in rw test refl
moved-prefix Minus at pending below = let test : nat_le (takes pending) 6 ≡ true = le-leb (takes pending) 6 below in rw test refl

-- a path behind a dot
run-path : (limit : ℕ) (pending : List Pending) (so_far : List (List ℕ)) (first : ℕ) (names : List (List ℕ)) (tokens : List Lexeme) → SpellPath names tokens → least pending 1 ≤ limit
    → run limit (Ok (dotted pending so_far first)) tokens ≡ Ok (named pending (so_far ++ names) first)
run-path limit pending so_far first _ _ (one_name bytes at) fits =
    run-step limit (dotted pending so_far first) (name bytes at) (named pending (so_far ++ bytes ∷ []) first) [] refl fits
run-path limit pending so_far first _ _ (more_names bytes at dot names tokens rest) fits =
    let names_so_far = so_far ++ bytes ∷ [] in
    run-step limit (dotted pending so_far first) (name bytes at) (named pending names_so_far first) (a_sign sign.Dot dot ∷ tokens) refl fits
    ∙ run-step limit (named pending names_so_far first) (a_sign sign.Dot dot) (dotted pending names_so_far first) tokens refl fits
    ∙ run-path limit pending names_so_far first names tokens rest fits
    ∙ ap (λ (n : List (List ℕ)). Ok (named pending n first)) (append_assoc so_far (bytes ∷ []) names)

run-whole_path : (limit : ℕ) (pending : List Pending) (names : List (List ℕ)) (tokens : List Lexeme) → SpellPath names tokens → least pending 1 ≤ limit
    → run limit (Ok (wanted pending)) tokens ≡ Ok (named pending names (first_offset tokens))
run-whole_path limit pending _ _ (one_name bytes at) fits = run-step limit (wanted pending) (name bytes at) (named pending (bytes ∷ []) at) [] refl fits
run-whole_path limit pending _ _ (more_names bytes at dot names tokens rest) fits =
    run-step limit (wanted pending) (name bytes at) (named pending (bytes ∷ []) at) (a_sign sign.Dot dot ∷ tokens) refl fits
    ∙ run-step limit (named pending (bytes ∷ []) at) (a_sign sign.Dot dot) (dotted pending (bytes ∷ []) at) tokens refl fits
    ∙ run-path limit pending (bytes ∷ []) at names tokens rest fits

-- the tokens lead from where an operand is wanted to a state that closes as the tree at hand does
abbrev pub Leads : ℕ → List Pending → List Lexeme → ℕ → Tree → Type 0
Leads limit pending tokens level tree = (state : State) × (run limit (Ok (wanted pending)) tokens ≡ Ok state)
    × ((k : ℕ) → k ≤ level → closing k state ≡ Some (closed k pending tree (first_offset tokens)))

arguments-positive : (given : Arguments) (tokens : List Lexeme) → SpellArguments given tokens → 1 ≤ depth_of_arguments given
arguments-positive _ _ (one_argument tree tokens s) = omega (arith, depth-positive tree)
arguments-positive _ _ (more_arguments tree rest front back comma s more) = omega (arith, depth-positive tree)

-- what is at hand at once
leads-leaf : (limit : ℕ) (pending : List Pending) (token : Lexeme) (tree : Tree) → moved (wanted pending) token ≡ Some (had (at_hand pending tree (offset_of token)))
    → least pending (depth tree) ≤ limit → Leads limit pending (token ∷ []) atom_level tree
leads-leaf limit pending token tree moves fits =
    (had (at_hand pending tree (offset_of token)), run-step limit (wanted pending) token (had (at_hand pending tree (offset_of token))) [] moves fits, λ k le. refl)

mutual
  pub leads : (limit : ℕ) (pending : List Pending) (level : ℕ) (tree : Tree) (tokens : List Lexeme) → Spells level tree tokens → takes pending ≤ level → least pending (depth tree) ≤ limit
      → Leads limit pending tokens level tree
  leads limit pending _ _ _ (tighter level tree tokens s) below fits =
      let inner = leads limit pending (suc level) tree tokens s (omega arith) fits in
      (inner.0, inner.1, λ k le. inner.2 k (omega arith))
  leads limit pending _ _ _ (an_integer n at) below fits = leads-leaf limit pending (number n at) (integer n at) refl fits
  leads limit pending _ _ _ (some_text bytes at) below fits = leads-leaf limit pending (text bytes at) (a_text bytes at) refl fits
  leads limit pending _ _ _ (a_truth b at) below fits = leads-leaf limit pending (a_sign (sign.Truth b) at) (truth b at) refl fits
  leads limit pending _ _ _ (an_unset at) below fits = leads-leaf limit pending (a_sign sign.Unset at) (unset at) refl fits
  leads limit pending _ _ _ (a_path names tokens s) below fits =
      (named pending names (first_offset tokens), run-whole_path limit pending names tokens s fits, λ k le. refl)
  leads limit pending _ _ _ (spell_prefixed word inner at tokens s) below fits =
      let next = before word at ∷ pending in
      let room : least pending (1 + 1) ≤ limit = omega (arith, depth-positive inner, least-mono pending (1 + 1) (depth inner + 1) (omega (arith, depth-positive inner))) in
      let one = run-step limit (wanted pending) (sign_of_prefix word at) (wanted next) tokens (moved-prefix word at pending below) room in
      let more = leads limit next (level_of_prefix word) inner tokens s (omega arith) fits in (
        more.0,
        one ∙ more.1,
        λ k le. more.2 k le ∙ ap Some (closed-prefix k word at pending inner (first_offset tokens) le)
            ∙ ap (λ (n : ℕ). Some (closed k pending (prefix word inner at) n)) (sym (offset-prefix word at)),
      )
  leads limit pending _ _ _ (joined op left right front back at sl sr) below fits =
      let token = a_sign (sign.Operator op) at in
      let first = first_offset front in
      let next = behind op left first ∷ pending in
      let room_left : least pending (depth left) ≤ limit = omega (arith, least-mono pending (depth left) (max (depth left) (depth right) + 1) (omega arith)) in
      let room : least pending (max (depth left) 1 + 1) ≤ limit =
      omega (arith, least-mono pending (max (depth left) 1 + 1) (max (depth left) (depth right) + 1) (omega (arith, depth-positive left))) in
      let ahead = leads limit pending (left_level op) left front sl (omega (arith, level_below op)) room_left in
      let closes : closing (left_level op) ahead.0 ≡ Some (at_hand pending left first) = ahead.2 (left_level op) (omega arith) ∙ ap Some (closed-stays pending op left first below) in
      let test : nat_le (takes pending) (level_of op) ≡ true = le-leb (takes pending) (level_of op) below in
      let moves : moved ahead.0 token ≡ Some (wanted next) = closing-joined ahead.0 op at (at_hand pending left first) closes ∙ (rw test refl) in
      let more = leads limit next (suc (level_of op)) right back sr (omega arith) fits in
      let runs : run limit (Ok (wanted pending)) (front ++ token ∷ back) ≡ Ok more.0 =
      run-append limit (Ok (wanted pending)) front (token ∷ back) ∙ ap (λ (r : Result State ExprFault). run limit r (token ∷ back)) ahead.1
      ∙ run-step limit ahead.0 token (wanted next) back moves room ∙ more.1 in (
        more.0,
        runs,
        λ k le. more.2 k (omega arith) ∙ ap Some (closed-operator k op left first pending right (first_offset back) le)
            ∙ ap (λ (n : ℕ). Some (closed k pending (binary op left right first) n)) (sym (first_offset-append (left_level op) left front (token ∷ back) sl)),
      )
  leads limit pending _ _ _ (in_parentheses tree tokens open_at close_at s) below fits =
      let last = a_sign sign.Close close_at in
      let room : least pending 1 ≤ limit = omega (arith, least-mono pending 1 (depth tree) (omega (arith, depth-positive tree))) in
      let inner = leads limit (group open_at ∷ pending) 0 tree tokens s (omega arith) fits in
      let moves : moved inner.0 last ≡ Some (had (at_hand pending tree open_at)) = closing-ended inner.0 close_at (at_hand (group open_at ∷ pending) tree (first_offset tokens)) (inner.2 0 (omega arith)) in (
        had (at_hand pending tree open_at),
        run-step limit (wanted pending) (a_sign sign.Open open_at) (wanted (group open_at ∷ pending)) (tokens ++ last ∷ []) refl room
            ∙ run-append limit (Ok (wanted (group open_at ∷ pending))) tokens (last ∷ []) ∙ ap (λ (r : Result State ExprFault). run limit r (last ∷ [])) inner.1
            ∙ run-step limit inner.0 last (had (at_hand pending tree open_at)) [] moves fits,
        λ k le. refl,
      )
  leads limit pending _ _ _ (a_call bytes given tokens at open_at close_at s) below fits =
      let behind_it = tokens ++ a_sign sign.Close close_at ∷ [] in
      let room : least pending 1 ≤ limit = omega (arith, least-mono pending 1 (depth_of_arguments given + 1) (omega arith)) in
      let positive : 1 ≤ depth_of_arguments given = arguments-positive given tokens s in
      let room_inside : least pending (max 0 1 + 1) ≤ limit = omega (arith, least-mono pending (max 0 1 + 1) (depth_of_arguments given + 1) (omega arith)) in
      let room_given : least pending (max 0 (depth_of_arguments given) + 1) ≤ limit =
      omega (arith, least-mono pending (max 0 (depth_of_arguments given) + 1) (depth_of_arguments given + 1) (omega arith)) in (
        had (at_hand pending (call bytes given at) at),
        run-step limit (wanted pending) (name bytes at) (named pending (bytes ∷ []) at) (a_sign sign.Open open_at ∷ behind_it) refl room
            ∙ run-step limit (named pending (bytes ∷ []) at) (a_sign sign.Open open_at) (wanted (calling bytes [] at ∷ pending)) behind_it refl room_inside
            ∙ leads-arguments limit pending bytes [] at given tokens close_at s room_given,
        λ k le. refl,
      )

  pub leads-arguments : (limit : ℕ) (pending : List Pending) (bytes : List ℕ) (given : List Tree) (at : ℕ) (rest : Arguments) (tokens : List Lexeme) (close_at : ℕ) → SpellArguments rest tokens
      → least pending (max (deepest_of given) (depth_of_arguments rest) + 1) ≤ limit
      → run limit (Ok (wanted (calling bytes given at ∷ pending))) (tokens ++ a_sign sign.Close close_at ∷ []) ≡ Ok (had (at_hand pending (call bytes (given_before given rest) at) at))
  leads-arguments limit pending bytes given at _ _ close_at (one_argument tree tokens s) fits =
      let last = a_sign sign.Close close_at in
      let next = calling bytes given at ∷ pending in
      let done = at_hand pending (call_of bytes given tree at) at in
      let room : least pending (max (deepest_of given) (depth tree) + 1) ≤ limit =
      omega (arith, least-mono pending (max (deepest_of given) (depth tree) + 1) (max (deepest_of given) (max (depth tree) 0) + 1) (omega arith)) in
      let inner = leads limit next 0 tree tokens s (omega arith) room in
      let moves : moved inner.0 last ≡ Some (had done) = closing-ended inner.0 close_at (at_hand next tree (first_offset tokens)) (inner.2 0 (omega arith)) in
      let deep = depth-given_before given (argument tree no_arguments) in
      let room_done : need (had done) ≤ limit = rw deep fits in
      run-append limit (Ok (wanted next)) tokens (last ∷ []) ∙ ap (λ (r : Result State ExprFault). run limit r (last ∷ [])) inner.1
      ∙ run-step limit inner.0 last (had done) [] moves room_done
  leads-arguments limit pending bytes given at _ _ close_at (more_arguments tree rest front back comma s more) fits =
      let token = a_sign sign.Comma comma in
      let last = a_sign sign.Close close_at in
      let now = calling bytes given at ∷ pending in
      let longer = given ++ tree ∷ [] in
      let next = calling bytes longer at ∷ pending in
      let positive = depth-positive tree in
      let deeper = deepest_of-more given tree in
      let room : least pending (max (deepest_of given) (depth tree) + 1) ≤ limit =
      omega (arith, least-mono pending (max (deepest_of given) (depth tree) + 1) (max (deepest_of given) (max (depth tree) (depth_of_arguments rest)) + 1) (omega arith)) in
      let room_next : least pending (max (deepest_of longer) 1 + 1) ≤ limit =
      omega (arith, least-mono pending (max (deepest_of longer) 1 + 1) (max (deepest_of given) (max (depth tree) (depth_of_arguments rest)) + 1) (omega arith)) in
      let room_more : least pending (max (deepest_of longer) (depth_of_arguments rest) + 1) ≤ limit =
      omega (arith, least-mono pending (max (deepest_of longer) (depth_of_arguments rest) + 1) (max (deepest_of given) (max (depth tree) (depth_of_arguments rest)) + 1) (omega arith)) in
      let inner = leads limit now 0 tree front s (omega arith) room in
      let moves : moved inner.0 token ≡ Some (wanted next) = closing-comma inner.0 comma (at_hand now tree (first_offset front)) (inner.2 0 (omega arith)) in
      rw (append_assoc front (token ∷ back) (last ∷ []))
      (run-append limit (Ok (wanted now)) front (token ∷ back ++ last ∷ []) ∙ ap (λ (r : Result State ExprFault). run limit r (token ∷ back ++ last ∷ [])) inner.1
      ∙ run-step limit inner.0 token (wanted next) (back ++ last ∷ []) moves room_next
      ∙ leads-arguments limit pending bytes longer at rest back close_at more room_more
      ∙ ap (λ (r : Arguments). Ok (had (at_hand pending (call bytes r at) at))) (given_before-more given tree rest))

-- all of a shallow tree is read
pub parsed-whole : (limit end : ℕ) (tree : Tree) (tokens : List Lexeme) → Spells 0 tree tokens → depth tree ≤ limit → parsed limit end tokens ≡ Ok tree
parsed-whole limit end tree tokens spelled shallow =
    let all = leads limit [] 0 tree tokens spelled (omega arith) shallow in
    ap (finished end) all.1 ∙ ap (finished_by end) (all.2 0 (omega arith))

-- tokens spell at most one tree, of whatever depth
pub one_tree : (tokens : List Lexeme) → SpellAtMostOneTree tokens
one_tree tokens a b first second =
    let of_first = parsed-whole (depth a + depth b) 0 a tokens first (omega arith) in
    let of_second = parsed-whole (depth a + depth b) 0 b tokens second (omega arith) in
    cc
