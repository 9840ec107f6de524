-- A row by its place in the table. Assumes nothing.
use Rattle.std.proofs.Common.{◌≡◌, ℕ, ◌<◌, List, [], ◌∷◌, length, map, refl, arith, sym, ◌∙◌, ap}
use Rattle.std.proofs.lemmas.List.{get_or-map, length-map}
use Rattle.std.specs.Prelude.{◌==◌, option_map, slice_index_or}
use Rattle.std.specs.List.{find}
use Rattle.cisca.specs.Table.{all_rows, code, code_in, operation_in, operation_of, operations, row_in, row_of}
use Rattle.cisca.specs.declared.operation.Operation.{Operation}
use Rattle.cisca.specs.declared.operation.Operation.TheVariants.{Nop}
use Rattle.cisca.specs.declared.operation.Row as declared

-- rows that say what the table's say are as many
same_length : (xs : List declared.Row) → map row_in xs ≡ all_rows → length xs ≡ length operations
same_length xs e = sym (length-map xs row_in) ∙ ap length e

-- the row at an operation's place says what the table says of the operation
pub row_at : (xs : List declared.Row) (i : ℕ) (d : declared.Row) (o : Operation) → map row_in xs ≡ all_rows → slice_index_or operations i Nop ≡ o → i < length operations → row_in (slice_index_or xs i d) ≡ row_of o
row_at xs i d o e at below =
    sym (get_or-map row_in xs i d (row_in d) (rw (same_length xs e) below))
    ∙ ap (λ rows. slice_index_or rows i (row_in d)) e
    ∙ get_or-map row_of operations i Nop (row_in d) below
    ∙ ap row_of at

-- a search among rows that say what the table's say is one among their operations
search_of : (b : ℕ) (xs : List declared.Row) → map row_in xs ≡ map row_of (map operation_in xs)
    → option_map operation_in (find (λ r. code_in r == b) xs) ≡ find (λ o. code o == b) (map operation_in xs)
search_of b [] e = refl
search_of b (x ∷ xs) e =
    let head : row_in x ≡ row_of x.operation = cc in
    let tail : map row_in xs ≡ map row_of (map operation_in xs) = cc in
    let same : x.code ≡ code x.operation = ap (λ r. r.code) head in
    grind (arith, same, search_of b xs tail)

-- so the rows that say what the table's say find the operation of a byte
pub row_found : (b : ℕ) (xs : List declared.Row) → map row_in xs ≡ all_rows → map operation_in xs ≡ operations
    → option_map operation_in (find (λ r. code_in r == b) xs) ≡ operation_of b
row_found b xs rows named = search_of b xs (rows ∙ ap (map row_of) (sym named)) ∙ ap (find (λ o. code o == b)) named
