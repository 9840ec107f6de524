-- An operation is told by its byte. Assumes nothing.
use Rattle.std.proofs.Common.{◌≡◌, ℕ, ◌-◌, ◌^◌, ◌<◌, Bool, true, List, [], ◌∷◌, Some, sym, ap, ◌∙◌, arith, rules}
use Rattle.std.proofs.lemmas.Bool.{eq-eqb, eqb-true}
use Rattle.std.specs.Prelude.{◌==◌, Decides}
use Rattle.std.specs.Fmt.{char_count, format_spec, padded, take_chars}
use Rattle.std.specs.List.{find}
use Rattle.cisca.specs.declared.operation.Operation.{Operation}
use Rattle.cisca.specs.contracts.operation.OperationPartialEq.TheImpl as same
use Rattle.cisca.specs.Table.{code, letters, name, operation_of, operations}

-- each byte of the table finds its own row
pub code_finds : (o : Operation) → operation_of (code o) ≡ Some o
code_finds o = grind arith

pub code_tells : (x y : Operation) → code x ≡ code y → x ≡ y
code_tells x y e =
    let both : Some x ≡ Some y = sym (code_finds x) ∙ ap operation_of e ∙ code_finds y in
    cc

-- so the bytes decide whether two operations are the same
pub same_operation : (x y : Operation) → Decides (code x == code y) (x ≡ y)
same_operation x y = (λ t. code_tells x y (eqb-true (code x) (code y) t), λ e. eq-eqb (code x) (code y) (ap code e))

-- and `==`, also through a bound, decides it too, and compares the bytes
pub same_by_derive : (x y : Operation) → Decides (same.ghosts.eq x y) (x ≡ y)
same_by_derive x y = search rules

pub same_code : (x y : Operation) → same.ghosts.eq x y ≡ (code x == code y)
same_code x y = search rules

-- what a search finds passes the test
find_passes : {X : Type 0} (test : X → Bool) (xs : List X) (y : X) → find test xs ≡ Some y → test y ≡ true
find_passes test [] y e = grind arith
find_passes test (x ∷ xs) y e = grind (arith, find_passes test xs y)

-- the operation that a byte finds has it
pub code_found : (b : ℕ) (o : Operation) → operation_of b ≡ Some o → code o ≡ b
code_found b o e = eqb-true (code o) b (find_passes (λ x. code x == b) operations o e)

-- an operation's byte is below 256
pub code_small : (o : Operation) → code o < 256
code_small o = grind arith

-- a name that is padded to four letters is filled with blanks
pub padded_name : (o : Operation) → padded (format_spec 32 0 0 4 (2 ^ 64 - 1)) (name o) ≡ letters o
unfolding padded char_count take_chars lib.Utf8.encode
padded_name o = grind arith
