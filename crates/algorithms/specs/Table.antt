-- A lent table of rows, and the row that is asked for. To be believed.
use Rattle.std.specs.Prelude.{ℕ, ◌*◌, ◌/◌, ◌%◌, Bool, cond, ◌&&◌, List, [], ◌∷◌, eqb, ltb, Result, Ok, Err}
use Rattle.std.specs.Prelude.{leb, length, get_or, take, drop}
use Rattle.algorithms.specs.Opcode.{modulating}
use Rattle.algorithms.specs.Plan.{counted, planned}
use Rattle.algorithms.specs.declared.Plan.{Plan}
use Rattle.algorithms.specs.declared.Compiled.{Compiled}
use Rattle.refusals.specs.declared.Refusal.{Refusal}
use Rattle.refusals.specs.declared.Refusal.TheVariants.{WrongTable}

-- six bytes, zero where there are none
unfoldable pub six : List ℕ → List ℕ
six l = get_or l 0 0 ∷ get_or l 1 0 ∷ get_or l 2 0 ∷ get_or l 3 0 ∷ get_or l 4 0 ∷ get_or l 5 0 ∷ []

-- 2 is not given: operators 4 or 6; a table of whole rows, 1 to 32 of them; a row number within the table
unfoldable pub tabled : ℕ → List ℕ → ℕ → Bool
tabled operators table row =
    counted operators
    && (ltb 0 (length table)
    && (eqb (length table % operators) 0
    && (leb (length table / operators) 32
    && ltb row (length table / operators))))

-- the bytes of a row
unfoldable pub row_of : ℕ → List ℕ → ℕ → List ℕ
row_of operators table row = six (take operators (drop (row * operators) table))

-- whether an operator of a row modulates others; 2 too where the row has no such operator
unfoldable pub modulator_answer : ℕ → List ℕ → ℕ → ℕ → Result Bool Refusal
modulator_answer operators table row operator =
    cond (tabled operators table row && ltb operator operators)
    (Ok (modulating (get_or (row_of operators table row) operator 0)))
    (Err WrongTable)

-- a row beside its plan
unfoldable pub with_row : List ℕ → Result Plan Refusal → Result Compiled Refusal
with_row bytes (Ok p) = Ok (record { row = bytes; plan = p })
with_row bytes (Err e) = Err e

unfoldable pub compiled : ℕ → List ℕ → ℕ → Result Compiled Refusal
compiled operators table row =
    cond (tabled operators table row)
    (with_row (row_of operators table row) (planned operators (row_of operators table row)))
    (Err WrongTable)
