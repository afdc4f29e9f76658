-- What the answer of a parse says of its tokens. Crates above have it as clauses of `parse`.
use Rattle.std.proofs.Common.{◌≡◌, ◌≢◌, ℕ, max, ◌<◌, ◌≤◌, true, false, nat_le, refl, sym, ap, subst, ◌∙◌, inl, inr, lit≤, arith}
use Rattle.std.proofs.Common.{List, [], ◌∷◌, ◌++◌, append_assoc, append-nil, Option, Some, None, Result, Ok, Err, IfOk, MatchResult}
use Rattle.std.proofs.lemmas.Bool.{le-leb, lt-leb, cases_lt}
use Rattle.ob_base.specs.Limits.{max_expression_depth}
use Rattle.ob_base.specs.declared.expr_fault.ExprFault.{ExprFault}
use Rattle.ob_base.specs.declared.expr_fault.ExprFault.TheVariants.{At, TooDeep, NoMemory}
use Rattle.ob_base.specs.declared.syntax.Expr.{Expr}
use Rattle.ob_syntax.specs.declared.sign.Sign.TheVariants as sign
use Rattle.ob_syntax.specs.Lexemes.{Lexeme, sign as a_sign, offset_of}
use Rattle.ob_base.specs.Syntax.{Tree, path, depth, tree_of}
use Rattle.ob_syntax.specs.Grammar.{Spells, first_offset, a_path, CanGoOn, CanStayShallow, IsFirstFault, at_token, at_end, IsFirstTooDeep, too_deep}
use Rattle.ob_syntax.specs.Parsing.{Pending, Read, at_hand, State, wanted, named, dotted, had, least, need, closed, moved, within, stepped, run, closing, whole, finished_by, finished, parsed}
use Rattle.ob_syntax.specs.Waits.{Tells}
use Rattle.ob_syntax.proofs.Spelling.{run-err, run-append, run-step, leads, least-closed}
use Rattle.ob_syntax.proofs.Faults.{nothing, Reached, at_wanted, at_named, at_dotted, at_had, completes, ReachedIf, moved-reached, IsRead, closed-read, is_expression}

-- a greater limit changes nothing where the lesser one serves
run-more_within : (limit more at : ℕ) (next : Option State) (tokens : List Lexeme) (last : State) → limit ≤ more
    → ((state : State) → run limit (Ok state) tokens ≡ Ok last → run more (Ok state) tokens ≡ Ok last)
    → run limit (within limit at next) tokens ≡ Ok last → run more (within more at next) tokens ≡ Ok last
run-more_within limit more at None tokens last le go is = absurd (let no = run-err limit (At at) tokens in cc)
run-more_within limit more at (Some next) tokens last le go is = elim (cases_lt limit (need next)) [
  | inl above ↦
      let test : nat_le (need next) limit ≡ false = lt-leb (need next) limit above in
      absurd (let no = run-err limit (TooDeep at) tokens in let here = rw test at is in cc)
  | inr fits ↦
      let test : nat_le (need next) limit ≡ true = le-leb (need next) limit fits in
      let test_more : nat_le (need next) more ≡ true = le-leb (need next) more (omega arith) in
      rw test_more (go next (rw test at is))
]

run-more : (limit more : ℕ) (state : State) (tokens : List Lexeme) (last : State) → limit ≤ more → run limit (Ok state) tokens ≡ Ok last → run more (Ok state) tokens ≡ Ok last
run-more limit more state [] last le is = is
run-more limit more state (token ∷ tokens) last le is =
    run-more_within limit more (offset_of token) (moved state token) tokens last le (λ next so. run-more limit more next tokens last le so) is

-- an expression leads on from where its front leads
continues : (front rest : List Lexeme) (state : State) (tree : Tree) → run max_expression_depth (Ok (wanted [])) front ≡ Ok state → Spells 0 tree (front ++ rest)
    → (limit : ℕ) → max_expression_depth ≤ limit → depth tree ≤ limit
    → (last : State) × (run limit (Ok state) rest ≡ Ok last) × (closing 0 last ≡ Some (at_hand [] tree (first_offset (front ++ rest))))
continues front rest state tree is spelled limit le deep =
    let all = leads limit [] 0 tree (front ++ rest) spelled (omega arith) deep in
    let parts : run limit (Ok (wanted [])) (front ++ rest) ≡ run limit (Ok state) rest = run-append limit (Ok (wanted [])) front rest
    ∙ ap (λ (r : Result State ExprFault). run limit r rest) (run-more max_expression_depth limit (wanted []) front state le is) in
    (all.0, sym parts ∙ all.1, all.2 0 (omega arith))

module _ (front : List Lexeme) (state : State) (is : run max_expression_depth (Ok (wanted [])) front ≡ Ok state) where
  no_more : (token : Lexeme) → moved state token ≡ None → ¬ CanGoOn (front ++ token ∷ [])
  no_more token moves = λ (more, tree, spelled).
      let limit = max max_expression_depth (depth tree) in
      let found = continues front (token ∷ more) state tree is (rw (append_assoc front (token ∷ []) more) at spelled) limit (omega arith) (omega arith) in
      let stops : stepped limit state token ≡ Err (At (offset_of token)) = ap (within limit (offset_of token)) moves in
      let ends_here = ap (λ (r : Result State ExprFault). run limit r more) stops ∙ run-err limit (At (offset_of token)) more in
      let runs = found.1 in
      absurd (cc)

  not_shallow : (token : Lexeme) (next : State) → moved state token ≡ Some next → max_expression_depth < need next → ¬ CanStayShallow (front ++ token ∷ [])
  not_shallow token next moves above = λ (more, tree, spelled, shallow).
      let limit = max_expression_depth in
      let found = continues front (token ∷ more) state tree is (rw (append_assoc front (token ∷ []) more) at spelled) limit (omega arith) shallow in
      let test : nat_le (need next) limit ≡ false = lt-leb (need next) limit above in
      let stops : stepped limit state token ≡ Err (TooDeep (offset_of token)) = ap (within limit (offset_of token)) moves ∙ (rw test refl) in
      let ends_here = ap (λ (r : Result State ExprFault). run limit r more) stops ∙ run-err limit (TooDeep (offset_of token)) more in
      let runs = found.1 in
      absurd (cc)

  closes_whole : (tree : Tree) → Spells 0 tree front → closing 0 state ≡ Some (at_hand [] tree (first_offset front))
  closes_whole tree spelled =
      let limit = max max_expression_depth (depth tree) in
      let found = continues front [] state tree is (rw (append-nil front) spelled) limit (omega arith) (omega arith) in
      let same : state ≡ found.0 = let runs = found.1 in cc in
      ap (closing 0) same ∙ found.2 ∙ ap (λ (l : List Lexeme). Some (at_hand [] tree (first_offset l))) (append-nil front)

shallow_front : (state : State) (front : List Lexeme) → Reached state front → need state ≤ max_expression_depth → CanStayShallow front
shallow_front state front reached fits =
    let all = completes state front reached in
    (all.0, all.1, all.2, omega (arith, all.3))

-- what the answer of a parse says of the tokens: they spell the tree, or have the fault
abbrev pub IsParse : ℕ → List Lexeme → Result Tree ExprFault → Type 0
IsParse end tokens (Ok tree) = Spells 0 tree tokens × (depth tree ≤ max_expression_depth)
IsParse end tokens (Err (At p)) = IsFirstFault end tokens p
IsParse end tokens (Err (TooDeep p)) = IsFirstTooDeep tokens p
IsParse end tokens _ = Unit {0}

-- at the end of the text
end-read : (end : ℕ) (front : List Lexeme) (state : State) → Reached state front → need state ≤ max_expression_depth → run max_expression_depth (Ok (wanted [])) front ≡ Ok state
    → (read : Read) → closing 0 state ≡ Some read → IsRead 0 read front → least read.pending (depth read.tree) ≡ need state
    → (pending : List Pending) → read.pending ≡ pending → IsParse end front (whole end pending read.tree)
end-read end front state reached fits is read closing_is r deep [] none =
    let shallow : depth read.tree ≤ max_expression_depth = omega (arith, rw none at deep) in
    (is_expression read front r none, shallow)
end-read end front state reached fits is read closing_is r deep (frame ∷ pending) some =
    at_end front (shallow_front state front reached fits) (λ tree spelled. absurd (let ends = closes_whole front state is tree spelled in
    let same : read ≡ at_hand [] tree (first_offset front) = cc in
    let none : read.pending ≡ [] = ap (λ (x : Read). x.pending) same in cc))

end-none : (end : ℕ) (front : List Lexeme) (state : State) → Reached state front → need state ≤ max_expression_depth → run max_expression_depth (Ok (wanted [])) front ≡ Ok state
    → closing 0 state ≡ None → IsFirstFault end front end
end-none end front state reached fits is closing_is =
    at_end front (shallow_front state front reached fits) (λ tree spelled. absurd (let ends = closes_whole front state is tree spelled in cc))

end-is : (end : ℕ) (front : List Lexeme) (state : State) → Reached state front → need state ≤ max_expression_depth → run max_expression_depth (Ok (wanted [])) front ≡ Ok state
    → IsParse end front (finished_by end (closing 0 state))
end-is end _ _ (at_wanted pending front o) fits is = end-none end front (wanted pending) (at_wanted pending front o) fits is refl
end-is end _ _ (at_dotted pending front names tokens dot o s) fits is =
    end-none end (front ++ (tokens ++ a_sign sign.Dot dot ∷ [])) (dotted pending names (first_offset tokens)) (at_dotted pending front names tokens dot o s) fits is refl
end-is end _ _ (at_named pending front names tokens o s) fits is =
    let first = first_offset tokens in
    let read = closed 0 pending (path names first) first in
    end-read end (front ++ tokens) (named pending names first) (at_named pending front names tokens o s) fits is read refl
    (closed-read pending front (path names first) tokens o (a_path names tokens s)) (least-closed 0 pending (path names first) first) read.pending refl
end-is end _ _ (at_had pending front tree tokens o s) fits is =
    let first = first_offset tokens in
    let read = closed 0 pending tree first in
    end-read end (front ++ tokens) (had (at_hand pending tree first)) (at_had pending front tree tokens o s) fits is read refl
    (closed-read pending front tree tokens o s) (least-closed 0 pending tree first) read.pending refl

step-is : (end : ℕ) (state : State) (front : List Lexeme) (token : Lexeme) (tokens : List Lexeme) → Reached state front → need state ≤ max_expression_depth
    → run max_expression_depth (Ok (wanted [])) front ≡ Ok state → (next : Option State) → moved state token ≡ next → ReachedIf next (front ++ token ∷ [])
    → ((after : State) → Reached after (front ++ token ∷ []) → need after ≤ max_expression_depth → run max_expression_depth (Ok (wanted [])) (front ++ token ∷ []) ≡ Ok after
    → IsParse end ((front ++ token ∷ []) ++ tokens) (finished end (run max_expression_depth (Ok after) tokens)))
    → IsParse end (front ++ token ∷ tokens) (finished end (run max_expression_depth (within max_expression_depth (offset_of token) next) tokens))
step-is end state front token tokens reached fits is None moves after go =
    rw (run-err max_expression_depth (At (offset_of token)) tokens) (at_token front tokens token (shallow_front state front reached fits) (no_more front state is token moves))
step-is end state front token tokens reached fits is (Some next) moves after go = elim (cases_lt max_expression_depth (need next)) [
  | inl above ↦
      let test : nat_le (need next) max_expression_depth ≡ false = lt-leb (need next) max_expression_depth above in
      let all = completes next (front ++ token ∷ []) after in
      rw (test, run-err max_expression_depth (TooDeep (offset_of token)) tokens)
      (too_deep front tokens token (shallow_front state front reached fits) (all.0, all.1, all.2) (not_shallow front state is token next moves above))
  | inr below ↦
      let test : nat_le (need next) max_expression_depth ≡ true = le-leb (need next) max_expression_depth below in
      let so_far : run max_expression_depth (Ok (wanted [])) (front ++ token ∷ []) ≡ Ok next = run-append max_expression_depth (Ok (wanted [])) front (token ∷ [])
      ∙ ap (λ (r : Result State ExprFault). run max_expression_depth r (token ∷ [])) is ∙ run-step max_expression_depth state token next [] moves below in
      rw test (rw (append_assoc front (token ∷ []) tokens) at (go next after below so_far))
]

run-is : (end : ℕ) (state : State) (front tokens : List Lexeme) → Reached state front → need state ≤ max_expression_depth → run max_expression_depth (Ok (wanted [])) front ≡ Ok state
    → IsParse end (front ++ tokens) (finished end (run max_expression_depth (Ok state) tokens))
run-is end state front [] reached fits is = rw (append-nil front) (end-is end front state reached fits is)
run-is end state front (token ∷ tokens) reached fits is =
    step-is end state front token tokens reached fits is (moved state token) refl (moved-reached state front reached token)
    (λ next after below so_far. run-is end next (front ++ token ∷ []) tokens after below so_far)

pub parsed-is : (end : ℕ) (tokens : List Lexeme) → IsParse end tokens (parsed max_expression_depth end tokens)
parsed-is end tokens = run-is end (wanted []) [] tokens (at_wanted [] [] nothing) (lit≤ tt) refl

-- a token behind which no reading goes on ends it
pub parsed-stops : (limit end : ℕ) (tokens ahead rest : List Lexeme) (state : State) (token : Lexeme) (fault : ExprFault) → run limit (Ok (wanted [])) tokens ≡ run limit (Ok state) ahead
    → ahead ≡ token ∷ rest → stepped limit state token ≡ Err fault → parsed limit end tokens ≡ Err fault
parsed-stops limit end tokens ahead rest state token fault goes_on is stops =
    ap (finished end) (goes_on ∙ ap (λ (l : List Lexeme). run limit (Ok state) l) is ∙ ap (λ (r : Result State ExprFault). run limit r rest) stops ∙ run-err limit fault rest)

-- what the answer of a call says, where it is what reading says or there is no memory
module _ (end : ℕ) (tokens : List Lexeme) where
  pub tree-answer : (answer : Result Expr ExprFault) → Tells answer (parsed max_expression_depth end tokens) tree_of → IfOk answer (λ expr. Spells 0 (tree_of expr) tokens)
  tree-answer (Ok expr) is = (subst (IsParse end tokens) is (parsed-is end tokens)).0
  tree-answer (Err fault) is = tt

  pub depth-answer : (answer : Result Expr ExprFault) → Tells answer (parsed max_expression_depth end tokens) tree_of → IfOk answer (λ expr. depth (tree_of expr) ≤ max_expression_depth)
  depth-answer (Ok expr) is = (subst (IsParse end tokens) is (parsed-is end tokens)).1
  depth-answer (Err fault) is = tt

  pub fault-answer : (answer : Result Expr ExprFault) (fault : ExprFault) → answer ≡ Err fault → fault ≢ NoMemory → Tells answer (parsed max_expression_depth end tokens) tree_of
      → IsParse end tokens (Err fault)
  fault-answer answer fault same not_memory is =
      let told = rw same at is in
      subst (IsParse end tokens) (told not_memory) (parsed-is end tokens)

pub whole-answer : (told : Result Tree ExprFault) (tree : Tree) (answer : Result Expr ExprFault) → told ≡ Ok tree → Tells answer told tree_of
    → MatchResult answer (λ expr. tree_of expr ≡ tree) (λ fault. fault ≡ NoMemory)
whole-answer told tree (Ok expr) whole is = cc
whole-answer told tree (Err NoMemory) whole is = refl
whole-answer told tree (Err (At p)) whole is = absurd (let no = is (λ same. absurd (cc)) in cc)
whole-answer told tree (Err (TooDeep p)) whole is = absurd (let no = is (λ same. absurd (cc)) in cc)
