-- What comes of a conversion, with what the room holds; and what is to come of bytes that are to be written.
use Rattle.std.specs.Prelude.{ℕ, cond, List, ltb, length, Result, Ok, Err}
use Rattle.meaning.specs.Call.{over}
use Rattle.meaning.specs.Convert.{Conversion}
use Rattle.refusal.specs.Numbers.{refusal_number, refusal_second}
use Rattle.refusal.specs.declared.Refusal.{Refusal}

abbrev pub conversion_number : {A : Type 0} → Result A Refusal → ℕ
conversion_number (Ok a) = 0
conversion_number (Err e) = refusal_number e

abbrev pub conversion_second : {A : Type 0} → Result A Refusal → ℕ
conversion_second (Ok a) = 0
conversion_second (Err e) = refusal_second e

abbrev pub conversion_of : {A : Type 0} → Result A Refusal → List ℕ → Conversion
conversion_of r out = record { number = conversion_number r; second = conversion_second r; out = out }

-- behind the checks 1 to 8: the new bytes are written, where there is room for them
unfoldable pub writing : List ℕ → List ℕ → Conversion
writing new out =
    cond (ltb (length out) (length new))
    (record { number = 39; second = length new; out = out })
    (record { number = 0; second = 0; out = over new out })
