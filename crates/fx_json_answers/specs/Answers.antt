-- Answers as JSON objects (RFC 8259).
use Rattle.std.specs.Prelude.{◌≡◌, ◌≤◌, ◌==◌, ℕ, Bool, true, if◌then◌else◌, List, [], ◌∷◌, ◌++◌, Option, None, Some, codes, string_bytes}
use Rattle.std.specs.Str.Lossy.{utf8_lossy}
use Rattle.serde_json.specs.Data.{Data, null, number, unsigned, string, object, member, no_members, depth}
use Rattle.serde_json.specs.Find.{get}
use Rattle.serde_json.specs.Read.{read, max_depth}
use Rattle.serde_json.specs.Written.{IsInOrder}
use Rattle.fx_base.specs.Device.{Writes}
use Rattle.fx_base.specs.declared.fault.Place.{Place}
use Rattle.fx_base.specs.declared.fault.Place.TheVariants as places

abbrev pub text_data : List ℕ → Data
text_data text = string (utf8_lossy text)

abbrev pub number_data : Option ℕ → Data
number_data None = null
number_data (Some n) = number (unsigned n)

-- a text is a JSON Pointer if it is empty or begins with a slash (RFC 6901, section 3)
abbrev pub is_pointer : List ℕ → Bool
is_pointer [] = true
is_pointer (first ∷ rest) = first == 47

abbrev pub text_place : List ℕ → Data
text_place text =
    if is_pointer text then object (member (codes "kind") (string (codes "pointer"))
    (member (codes "pointer") (string text) no_members))
    else object (member (codes "kind") (string (codes "text")) (member (codes "text") (string text) no_members))

-- a place, with its kind
abbrev pub place_data : Place → Data
place_data places.None = null
place_data (places.Line n) = object (member (codes "kind") (string (codes "line"))
    (member (codes "line") (number (unsigned n)) no_members))
place_data (places.Octet n) = object (member (codes "kind") (string (codes "octet"))
    (member (codes "octet") (number (unsigned n)) no_members))
place_data (places.Text text) = text_place (string_bytes text)

-- an object that has the members of an answer, possibly among others
pub record IsAnswerData (command answer : List ℕ) (status : ℕ) (refusal : Option ℕ) (place : Place) (output : List ℕ)
    (d : Data) : Type 0 where
  pub command_is : get (codes "command") d ≡ Some (string command)
  pub answer_is : get (codes "answer") d ≡ Some (string answer)
  pub status_is : get (codes "status") d ≡ Some (number (unsigned status))
  pub number_is : get (codes "number") d ≡ Some (number_data refusal)
  pub place_is : get (codes "place") d ≡ Some (place_data place)
  pub output_is : get (codes "output") d ≡ Some (text_data output)

-- a JSON text of the data: their items and members, in order; a reader that accepts this depth of nesting reads the
-- data back
pub record IsJsonText (json : List ℕ) (d : Data) : Type 0 where
  pub in_order : IsInOrder json d
  pub reads_back : depth d ≤ max_depth → read json ≡ Some d

-- the JSON text of an answer follows what was written before, as one line
pub record WritesAnswer (command answer : List ℕ) (status : ℕ) (refusal : Option ℕ) (place : Place) (output : List ℕ)
    (old new : Option (List ℕ)) : Type 0 where
  pub json : List ℕ
  pub value : Data
  pub text : IsJsonText json value
  pub members : IsAnswerData command answer status refusal place output value
  pub written : Writes old new (json ++ 10 ∷ [])
