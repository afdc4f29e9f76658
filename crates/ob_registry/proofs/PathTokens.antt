-- The text of the expression of a row's path, whose parent field has this name: its tokens, and the tree that they spell.
use Rattle.std.proofs.Common.{◌≡◌, ℕ, zero, suc, ◌+◌, ◌≤◌, true, false, List, [], ◌∷◌, ◌++◌, length, drop, take, Option, Some, None, Result, Ok, Err, refl, sym, ap, subst, ◌∙◌, append_assoc, arith}
use Rattle.std.specs.Prelude.{codes}
use Rattle.std.specs.List.{list_all, prefix_len, take_while}
use Rattle.std.proofs.lemmas.Bool.{and_parts, false≢true}
use Rattle.std.proofs.lemmas.Bool.Decides.{nat_tests}
use Rattle.ob_base.specs.Limits.{max_expression_depth}
use Rattle.ob_base.specs.NameBytes.{begins_with_letter, is_letter, is_name_byte}
use Rattle.ob_base.specs.Syntax.{Tree, a_text, argument, call, depth, no_arguments, path}
use Rattle.ob_base.specs.declared.expr_fault.ExprFault.{ExprFault}
use Rattle.ob_base.specs.declared.syntax.Operator.TheVariants.{Subtract}
use Rattle.ob_definition.specs.Members.{parents_path, path_name}
use Rattle.ob_syntax.specs.declared.sign.Sign.{Sign}
use Rattle.ob_syntax.specs.declared.sign.Sign.TheVariants as sign
use Rattle.ob_syntax.specs.Grammar.{IsExpression}
use Rattle.ob_syntax.specs.Lexemes.{Cut, Lexeme, name, sign as a_sign, text, front_cut, is_separator, lexemes, lexemes_from, sign_or, text_cut, word_lexeme}
use Rattle.ob_syntax.specs.Parsing.{parsed}
use Rattle.ob_syntax.specs.Signs.{pair_sign, reserved_sign, single_sign}
use Rattle.ob_syntax.proofs.CallerLemmas.{front-letter, lexemes_from-front, parsed-whole}

-- so many bytes behind an offset
abbrev pub up : ℕ → ℕ → ℕ
up zero at = at
up (suc k) at = up k (at + 1)

-- ---- tokens

-- what stands behind the parent's name and a dot
abbrev text_behind : List ℕ
text_behind = path_name ++ codes ", text(id), " ++ 34 ∷ 47 ∷ 34 ∷ 41 ∷ []

-- the tokens from the dot on
abbrev behind_parent : ℕ → List Lexeme
behind_parent at =
    a_sign sign.Dot at ∷ name path_name (up 1 at) ∷ a_sign sign.Comma (up 12 at) ∷ name (codes "text") (up 14 at) ∷ a_sign sign.Open (up 18 at) ∷ name (codes "id") (up 19 at)
    ∷ a_sign sign.Close (up 21 at) ∷ a_sign sign.Comma (up 22 at) ∷ text (47 ∷ []) (up 24 at) ∷ a_sign sign.Close (up 27 at) ∷ []

abbrev tokens_with : Lexeme → ℕ → List Lexeme
tokens_with word at = name (codes "cat") 0 ∷ a_sign sign.Open 3 ∷ word ∷ behind_parent at

behind-lexed : (at : ℕ) → lexemes_from 0 at (46 ∷ text_behind) ≡ behind_parent at
unfolding front_cut word_lexeme is_separator is_name_byte reserved_sign pair_sign single_sign text_cut
behind-lexed at = refl

cat-lexed : (b : ℕ) (bytes : List ℕ) → lexemes_from 0 0 (99 ∷ 97 ∷ 116 ∷ 40 ∷ b ∷ bytes) ≡ name (codes "cat") 0 ∷ a_sign sign.Open 3 ∷ lexemes_from 0 4 (b ∷ bytes)
unfolding front_cut word_lexeme is_separator is_name_byte reserved_sign pair_sign single_sign
cat-lexed b bytes = refl

-- the bytes of a name up to a dot
no_dot : is_name_byte 46 ≡ false
unfolding is_name_byte
no_dot = refl

run-len : (bytes rest : List ℕ) → list_all is_name_byte bytes ≡ true → prefix_len is_name_byte (bytes ++ 46 ∷ rest) ≡ length bytes
run-len [] rest all = rw no_dot refl
run-len (b ∷ bytes) rest all =
    let both = and_parts (is_name_byte b) (list_all is_name_byte bytes) all in
    let more = run-len bytes rest both.1 in
    rw both.0 (omega arith)

take-front : (xs ys : List ℕ) → take (length xs) (xs ++ ys) ≡ xs
take-front [] ys = refl
take-front (x ∷ xs) ys = ap (λ (l : List ℕ). x ∷ l) (take-front xs ys)

run-of : (bytes rest : List ℕ) → list_all is_name_byte bytes ≡ true → take_while is_name_byte (bytes ++ 46 ∷ rest) ≡ bytes
run-of bytes rest all = ap (λ (n : ℕ). take n (bytes ++ 46 ∷ rest)) (run-len bytes rest all) ∙ take-front bytes (46 ∷ rest)

drop-front : (xs ys : List ℕ) → drop (length xs) (xs ++ ys) ≡ ys
drop-front [] ys = refl
drop-front (x ∷ xs) ys = drop-front xs ys

no_blank : (b : ℕ) → is_letter b ≡ true → is_separator b ≡ false
unfolding is_separator
no_blank b letter = grind (arith, nat_tests)

abbrev cut_of : Lexeme → ℕ → Cut
cut_of lexeme len = record { lexeme = lexeme; len = len }

-- the whole text
abbrev pub path_text : List ℕ → List ℕ
path_text parent = codes "cat(" ++ parents_path parent ++ codes ", text(id), " ++ 34 ∷ 47 ∷ 34 ∷ 41 ∷ []

path-lexed : (parent : List ℕ) → begins_with_letter parent ≡ true → list_all is_name_byte parent ≡ true → lexemes (path_text parent) ≡ tokens_with (word_lexeme parent 4) (4 + length parent)
path-lexed [] letter all = absurd (false≢true letter)
path-lexed (b ∷ bytes) letter all =
    let front : List ℕ = b ∷ bytes in
    let rest : List ℕ = bytes ++ 46 ∷ text_behind in
    let run : take_while is_name_byte (b ∷ rest) ≡ front = run-of (b ∷ bytes) text_behind all in
    let cut : front_cut b rest 4 ≡ cut_of (word_lexeme front 4) (length front) = front-letter b rest 4 letter ∙ ap (λ (l : List ℕ). cut_of (word_lexeme l 4) (length l)) run in
    let some : 1 ≤ length front = omega arith in
    let token : lexemes_from 0 4 (b ∷ rest) ≡ word_lexeme front 4 ∷ lexemes_from 0 (4 + length front) (drop (length front) (b ∷ rest)) =
    lexemes_from-front 4 b rest (cut_of (word_lexeme front 4) (length front)) (no_blank b letter) cut some in
    let left : drop (length front) (b ∷ rest) ≡ 46 ∷ text_behind = drop-front (b ∷ bytes) (46 ∷ text_behind) in
    ap (λ (l : List ℕ). lexemes (99 ∷ 97 ∷ 116 ∷ 40 ∷ b ∷ l)) (append_assoc (bytes ++ 46 ∷ path_name) (codes ", text(id), ") (34 ∷ 47 ∷ 34 ∷ 41 ∷ [])
    ∙ append_assoc bytes (46 ∷ path_name) (codes ", text(id), " ++ 34 ∷ 47 ∷ 34 ∷ 41 ∷ []))
    ∙ cat-lexed b rest
    ∙ ap (λ (l : List Lexeme). name (codes "cat") 0 ∷ a_sign sign.Open 3 ∷ l)
    (token ∙ ap (λ (l : List ℕ). word_lexeme front 4 ∷ lexemes_from 0 (4 + length front) l) left ∙ ap (λ (l : List Lexeme). word_lexeme front 4 ∷ l) (behind-lexed (4 + length front)))

-- ---- the tree

abbrev pub tree_at : List ℕ → ℕ → Tree
tree_at parent at =
    call (codes "cat") (argument (path (parent ∷ path_name ∷ []) 4) (argument (call (codes "text") (argument (path (codes "id" ∷ []) (up 19 at)) no_arguments) (up 14 at)) (argument (a_text (47 ∷ []) (up 24 at)) no_arguments))) 0

abbrev read_as : Tree → Result Tree ExprFault
read_as tree = Ok tree

no_tree : (why : ExprFault) (tree : Tree) → Err why ≡ read_as tree → ⊥
no_tree why tree e = cc

same_tree : (a b : Tree) → read_as a ≡ read_as b → a ≡ b
same_tree a b e = cc

named-read : (parent : List ℕ) (at : ℕ) → parsed max_expression_depth 0 (tokens_with (name parent 4) at) ≡ read_as (tree_at parent at)
named-read parent at = refl

-- no tree has a reserved word or a symbol there
sign-unread : (s : Sign) (at : ℕ) (tree : Tree) → parsed max_expression_depth 0 (tokens_with (a_sign s 4) at) ≡ Ok tree → ⊥
sign-unread (sign.Operator Subtract) at tree e = no_tree _ tree e
sign-unread (sign.Operator _) at tree e = no_tree _ tree e
sign-unread sign.Not at tree e = no_tree _ tree e
sign-unread (sign.Truth b) at tree e = no_tree _ tree e
sign-unread sign.Unset at tree e = no_tree _ tree e
sign-unread _ at tree e = no_tree _ tree e

word-by : (parent : List ℕ) → word_lexeme parent 4 ≡ sign_or (reserved_sign parent) 4 (name parent 4)
unfolding word_lexeme
word-by parent = refl

-- what the text of a right expression spells
pub path-spelled : (parent : List ℕ) → begins_with_letter parent ≡ true → list_all is_name_byte parent ≡ true → (tree : Tree) → IsExpression tree (lexemes (path_text parent)) → depth tree ≤ max_expression_depth
    → tree ≡ tree_at parent (4 + length parent)
path-spelled parent letter all tree spelled shallow = by (reserved_sign parent) refl
  where
    read : parsed max_expression_depth 0 (tokens_with (word_lexeme parent 4) (4 + length parent)) ≡ Ok tree
    read = ap (parsed max_expression_depth 0) (sym (path-lexed parent letter all)) ∙ parsed-whole max_expression_depth 0 tree (lexemes (path_text parent)) spelled shallow

    with_word : (o : Option Sign) → reserved_sign parent ≡ o → parsed max_expression_depth 0 (tokens_with (sign_or o 4 (name parent 4)) (4 + length parent)) ≡ Ok tree
    with_word o e =
        subst (λ (o : Option Sign). parsed max_expression_depth 0 (tokens_with (sign_or o 4 (name parent 4)) (4 + length parent)) ≡ Ok tree) e
        (subst (λ (word : Lexeme). parsed max_expression_depth 0 (tokens_with word (4 + length parent)) ≡ Ok tree) (word-by parent) read)

    by : (o : Option Sign) → reserved_sign parent ≡ o → tree ≡ tree_at parent (4 + length parent)
    by None e = sym (same_tree (tree_at parent (4 + length parent)) tree (sym (named-read parent (4 + length parent)) ∙ with_word None e))
    by (Some s) e = absurd (sign-unread s (4 + length parent) tree (with_word (Some s) e))
