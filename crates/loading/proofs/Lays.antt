-- Bytes laid one behind the other. Assumes nothing.
use Rattle.std.proofs.Common.{◌≡◌, ℕ, suc, ◌+◌, ◌-◌, ◌%◌, ◌^◌, ◌<◌, List, [], ◌∷◌, ◌++◌, length, get_or, drop, sym, ap, ◌∙◌, arith}
use Rattle.std.proofs.lemmas.List.{drop_more}
use Rattle.cisca.specs.Table.{code}
use Rattle.cisca.specs.declared.instruction.Instruction.{Instruction}
use Rattle.codec.specs.Encoding.{bytes, bytes_if}
use Rattle.memory.specs.Access.{writing}
use Rattle.memory.specs.Cells.{Cell, written}
use Rattle.program.specs.Programs.{program_bytes}
use Rattle.quantity.specs.Sums.{address, later}
use Rattle.quantity.specs.declared.Address.{Address}
use Rattle.words.specs.Words.{and_then}
use Rattle.loading.specs.Laid.{laid, vacancy}

-- one address of a range tested
pub vacancy_next : (m : ℕ → Cell) (a : Address) (n k : ℕ) → k < n → vacancy m a (n - k) ≡ and_then (writing (m a.0) a) (λ _. vacancy m (later a 1) (n - (k + 1)))
vacancy_next m a n k h = ap (vacancy m a) (let e : n - k ≡ suc (n - (k + 1)) = omega arith in e)

later_later : (a : Address) (j k : ℕ) → later (later a j) k ≡ later a (j + k)
later_later a j k = ap address (let e : ((a.0 + j) % 2 ^ 32 + k) % 2 ^ 32 ≡ (a.0 + (j + k)) % 2 ^ 32 = omega arith in e)

laid_append : (xs ys : List ℕ) (m : ℕ → Cell) (a : Address) → a.0 < 2 ^ 32 → laid m a (xs ++ ys) ≡ laid (laid m a xs) (later a (length xs)) ys
laid_append [] ys m a h = ap (λ (n : ℕ). laid m (address n) ys) (let e : a.0 ≡ (a.0 + 0) % 2 ^ 32 = omega arith in e)
laid_append (x ∷ xs) ys m a h =
    laid_append xs ys (written m a.0 x) (later a 1) (omega arith)
    ∙ ap (λ (b : Address). laid (laid (written m a.0 x) (later a 1) xs) b ys) (later_later a 1 (length xs) ∙ ap (later a) (let e : 1 + length xs ≡ suc (length xs) = omega arith in e))

-- bytes laid behind others
laid_behind : (x : ℕ) (xs ys : List ℕ) (m : ℕ → Cell) (a : Address) → laid m a (x ∷ (xs ++ ys)) ≡ laid (laid m a (x ∷ xs)) (later a (suc (length xs))) ys
laid_behind x xs ys m a =
    laid_append xs ys (written m a.0 x) (later a 1) (omega arith)
    ∙ ap (λ (b : Address). laid (laid (written m a.0 x) (later a 1) xs) b ys) (later_later a 1 (length xs) ∙ ap (later a) (let e : 1 + length xs ≡ suc (length xs) = omega arith in e))

pub record_next : (is : List Instruction) (k : ℕ) (i : Instruction) → k < length is → i ≡ get_or is k i → drop k is ≡ i ∷ drop (k + 1) is
record_next is k i h e = drop_more is k i h ∙ ap (λ (j : Instruction). j ∷ drop (k + 1) is) (sym e)

-- one record of a program laid
pub laid_more : (is : List Instruction) (k : ℕ) (i : Instruction) (m n : ℕ → Cell) (a b : Address) → k < length is → i ≡ get_or is k i → n ≡ laid m a (bytes i) → b ≡ later a (length (bytes i)) → laid n b (program_bytes (drop (k + 1) is)) ≡ laid m a (program_bytes (drop k is))
laid_more is k i m n a b h e f g =
    (λ j. laid (f j) (g j) (program_bytes (drop (k + 1) is)))
    ∙ sym (ap (λ (l : List Instruction). laid m a (program_bytes l)) (record_next is k i h e) ∙ laid_behind (code i.operation) (bytes_if i.first ++ bytes_if i.second) (program_bytes (drop (k + 1) is)) m a)
