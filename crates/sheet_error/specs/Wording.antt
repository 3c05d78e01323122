-- What a refusal says to its reader.
use Rattle.std.specs.Prelude.{ℕ, List, ◌++◌, codes, decimal}
use Rattle.sheet_error.specs.declared.cause.Cause.{Cause}
use Rattle.sheet_error.specs.declared.cause.Cause.TheVariants as cause
use Rattle.sheet_error.specs.declared.cause.Header.{Header}
use Rattle.sheet_error.specs.declared.cause.Header.TheVariants as header
use Rattle.sheet_error.specs.declared.cause.Keyword.{Keyword}
use Rattle.sheet_error.specs.declared.cause.Keyword.TheVariants as keyword
use Rattle.sheet_error.specs.declared.cause.Number.{Number}
use Rattle.sheet_error.specs.declared.cause.Number.TheVariants as number
use Rattle.sheet_error.specs.declared.cause.SheetError.{SheetError}
use Rattle.sheet_error.specs.declared.cause.SheetError.TheVariants as error

-- the word that a header's line begins with
abbrev pub header_text : Header → List ℕ
header_text header.Tray = codes "tray"
header_text header.Hash = codes "hash"
header_text header.Blocks = codes "blocks"

-- what a number stands for
abbrev pub number_text : Number → List ℕ
number_text number.Tray = codes "tray number"
number_text number.Blocks = codes "number of blocks"
number_text number.KeyIndex = codes "key index"
number_text number.Sequence = codes "sequence number"

-- the words of a line
abbrev pub form_text : Keyword → List ℕ
form_text keyword.Tray = codes "tray NUMBER"
form_text keyword.Hash = codes "hash sha256 SALT or hash siphash KEY"
form_text keyword.Blocks = codes "blocks NUMBER"
form_text keyword.Sim = codes "sim IDENTITY KEY-INDEX SEQUENCE-NUMBER"

abbrev pub wrong_words_text : Keyword → List ℕ
wrong_words_text keyword.Tray = codes "wrong number of words (tray NUMBER)"
wrong_words_text keyword.Hash = codes "wrong number of words (hash sha256 SALT or hash siphash KEY)"
wrong_words_text keyword.Blocks = codes "wrong number of words (blocks NUMBER)"
wrong_words_text keyword.Sim = codes "wrong number of words (sim IDENTITY KEY-INDEX SEQUENCE-NUMBER)"

abbrev pub not_decimal_text : Number → List ℕ
not_decimal_text number.Tray = codes "tray number is not written in decimal digits"
not_decimal_text number.Blocks = codes "number of blocks is not written in decimal digits"
not_decimal_text number.KeyIndex = codes "key index is not written in decimal digits"
not_decimal_text number.Sequence = codes "sequence number is not written in decimal digits"

abbrev pub out_of_range_text : Number → List ℕ
out_of_range_text number.Tray = codes "tray number out of range (1 to 4294967295)"
out_of_range_text number.Blocks = codes "number of blocks out of range (1 to 4096)"
out_of_range_text number.KeyIndex = codes "key index out of range (0 to 65535)"
out_of_range_text number.Sequence = codes "sequence number out of range (0 to 281474976710655)"

abbrev pub missing_text : Header → List ℕ
missing_text header.Tray = codes "tray is missing"
missing_text header.Hash = codes "hash is missing"
missing_text header.Blocks = codes "blocks is missing"

abbrev pub repeated_text : Header → List ℕ
repeated_text header.Tray = codes "tray stands twice"
repeated_text header.Hash = codes "hash stands twice"
repeated_text header.Blocks = codes "blocks stands twice"

abbrev pub late_text : Header → List ℕ
late_text header.Tray = codes "tray stands after the first sim"
late_text header.Hash = codes "hash stands after the first sim"
late_text header.Blocks = codes "blocks stands after the first sim"

-- what is wrong with a line
abbrev pub cause_text : Cause → List ℕ
cause_text cause.UnknownWord = codes "the first word is none of tray, hash, blocks and sim"
cause_text (cause.WordCount what) = wrong_words_text what
cause_text (cause.NotANumber what) = not_decimal_text what
cause_text (cause.OutOfRange what) = out_of_range_text what
cause_text cause.IdentityLength = codes "identity is not 6 to 20 digits long"
cause_text cause.IdentityDigit = codes "identity has something else than decimal digits"
cause_text cause.UnknownHash = codes "unknown hash (sha256 or siphash)"
cause_text cause.KeyLength = codes "salt or key is not 32 hexadecimal digits long"
cause_text cause.KeyDigit = codes "salt or key has something else than hexadecimal digits"
cause_text (cause.Missing what) = missing_text what
cause_text (cause.Repeated what) = repeated_text what
cause_text (cause.Late what) = late_text what
cause_text cause.TooManySims = codes "more SIMs than blocks"

-- one line of text
abbrev pub error_text : SheetError → List ℕ
error_text (error.Bad line why) = codes "line " ++ (decimal line ++ (codes ": " ++ cause_text why))
error_text error.NoMemory = codes "out of memory"
