-- The text of a plan's sheet, field by field, and which fields are legal. Assumes nothing.
--     first_line n b      the first line: n and the bill b
--     lines_text x ls     the lines ls from number x on
--     LegalLine n l       every number of the line l is in its limits for n boards
--     fields n            the fields of a sheet for n boards after its first one, from left to right and from top to bottom;
--                         a line end is a field, and so is whatever follows the last line
--     read_refusal bs     16 with line and column of the first field of bs that is not legal
--     wrong_line n x ls   16 with line and column of the first number beyond its limits, in the lines ls from number x on
use Rattle.std.specs.Prelude.{◌≡◌, ℕ, zero, suc, ◌+◌, ◌-◌, ◌*◌, ◌<◌, Bool, true, cond, List, [], ◌∷◌, ◌++◌, length, take, drop, ℤ, pos, negsuc, is_some, Some, None, Option, nat_lt}
use Rattle.std.specs.Str.{bytes_eq}
use Rattle.faults.specs.declared.cause.Cause.{Cause}
use Rattle.faults.specs.declared.cause.Cause.TheVariants.{Field}
use Rattle.sheets.specs.Text.{text, reads, within}
use Rattle.sheets.specs.declared.line.Line.{Line}

-- The limits. A cabinet has 1 to 16 boards.

-- the largest bill
abbrev pub bill_high : ℤ
bill_high = pos 281474976710656

-- the largest price, and the least, as much below zero
abbrev pub price_high : ℤ
price_high = pos 1125899906842624

abbrev pub price_low : ℤ
price_low = negsuc 1125899906842623

-- the last board of n
abbrev pub last_board : ℕ → ℤ
last_board n = pos (n - 1)

-- The text.

abbrev pub line_text : ℕ → Line → List ℕ
line_text x l = text 4 (pos x) ++ (text 4 (pos l.board) ++ (text 20 l.u ++ (text 20 l.v ++ 10 ∷ [])))

-- the lines from number x on
abbrev pub lines_text : ℕ → List Line → List ℕ
lines_text x [] = []
lines_text x (l ∷ ls) = line_text x l ++ lines_text (x + 1) ls

abbrev pub first_line : ℕ → ℕ → List ℕ
first_line n bill = text 4 (pos n) ++ (text 20 (pos bill) ++ 10 ∷ [])

abbrev pub sheet_length : ℕ → ℕ
sheet_length n = 25 + 49 * n

abbrev pub LegalLine : ℕ → Line → Type 0
LegalLine n l = (l.board < n) × (within price_low price_high l.u ≡ true) × (within price_low price_high l.v ≡ true)

-- Reading.

-- the w bytes from `at` on, or as many as there are
abbrev pub part : List ℕ → ℕ → ℕ → List ℕ
part bs at w = take w (drop at bs)

-- a field: its line and its first column, both from 1, its bytes' place and number, and which bytes may stand there
pub record FieldAt : Type 0 where
  pub line : ℕ
  pub column : ℕ
  pub at : ℕ
  pub width : ℕ
  pub stands : List ℕ → Bool

-- a number from lo to hi
abbrev pub number_field : ℕ → ℕ → ℕ → ℕ → ℤ → ℤ → FieldAt
number_field line column at width lo hi =
    record { line = line; column = column; at = at; width = width; stands = λ bs. is_some (reads width lo hi bs) }

-- just these bytes
abbrev pub fixed_field : ℕ → ℕ → ℕ → ℕ → List ℕ → FieldAt
fixed_field line column at width bytes = record { line = line; column = column; at = at; width = width; stands = bytes_eq bytes }

-- line x: its number, the board that takes role x, the two prices and the line end
abbrev pub line_fields : ℕ → ℕ → List FieldAt
line_fields n x =
    number_field (x + 2) 1 (sheet_length x) 4 (pos x) (pos x)
    ∷ number_field (x + 2) 5 (sheet_length x + 4) 4 (pos 0) (last_board n)
    ∷ number_field (x + 2) 9 (sheet_length x + 8) 20 price_low price_high
    ∷ number_field (x + 2) 29 (sheet_length x + 28) 20 price_low price_high
    ∷ fixed_field (x + 2) 49 (sheet_length x + 48) 1 (10 ∷ [])
    ∷ []

-- the k lines from number x on
abbrev pub lines_fields : ℕ → ℕ → ℕ → List FieldAt
lines_fields n x zero = []
lines_fields n x (suc k) = line_fields n x ++ lines_fields n (x + 1) k

-- whatever follows the last line of bs, which is nothing in a legal sheet
abbrev pub end_field : List ℕ → ℕ → FieldAt
end_field bs n = fixed_field (n + 2) 1 (sheet_length n) (length bs) []

abbrev pub first_illegal : List ℕ → List FieldAt → Option Cause
first_illegal bs [] = None
first_illegal bs (f ∷ fs) = cond (f.stands (part bs f.at f.width)) (first_illegal bs fs) (Some (Field f.line f.column))

abbrev pub fields : List ℕ → ℕ → List FieldAt
fields bs n =
    number_field 1 5 4 20 (pos 0) bill_high
    ∷ fixed_field 1 25 24 1 (10 ∷ [])
    ∷ (lines_fields n 0 n ++ end_field bs n ∷ [])

-- the count of boards that the first field names decides which fields follow
abbrev pub read_by : List ℕ → Option ℤ → Option Cause
read_by bs None = Some (Field 1 1)
read_by bs (Some (pos n)) = first_illegal bs (fields bs n)
read_by bs (Some (negsuc n)) = Some (Field 1 1)

unfoldable pub read_refusal : List ℕ → Option Cause
read_refusal bs = read_by bs (reads 4 (pos 1) (pos 16) (part bs 0 4))

-- Writing.

-- the column of the first number of a line that is beyond its limits
abbrev pub wrong_column : ℕ → Line → Option ℕ
wrong_column n l =
    cond (nat_lt l.board n)
    (cond (within price_low price_high l.u) (cond (within price_low price_high l.v) None (Some 29)) (Some 9))
    (Some 5)

-- the field at that column of line x, or what the lines after it have
abbrev pub wrong_or : ℕ → Option ℕ → Option Cause → Option Cause
wrong_or x None later = later
wrong_or x (Some column) later = Some (Field (x + 2) column)

abbrev pub wrong_line : ℕ → ℕ → List Line → Option Cause
wrong_line n x [] = None
wrong_line n x (l ∷ ls) = wrong_or x (wrong_column n l) (wrong_line n (x + 1) ls)
