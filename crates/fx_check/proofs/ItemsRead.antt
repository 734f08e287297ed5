-- What is read in a line is the item whose text it is.
use Rattle.std.proofs.Common.{◌≡◌, ℕ, suc, ◌≤◌, Bool, true, false, List, length, Option, Some, None, refl, ap, arith}
use Rattle.std.proofs.lemmas.Bool.{lt-leb}
use Rattle.std.specs.Prelude.{nat_lt}
use Rattle.fx_cert.specs.declared.item.Item.{Item}
use Rattle.fx_cert.specs.ItemText.{IsItemText}
use Rattle.fx_cert.specs.ItemReading.{item_of}
use Rattle.fx_cert.proofs.Texts.{item_found, reads}
use Rattle.fx_check.specs.FirstRefusal.{malformed, says, said, cut, reading_of}

not_long : (n : ℕ) → n ≤ 4096 → nat_lt 4096 n ≡ false
not_long n le = lt-leb (suc 4096) n (omega arith)

pub line_says : (bytes : List ℕ) (ended : Bool) (i : Item) → ended ≡ true → length bytes ≤ 4096 → IsItemText bytes i
    → reading_of (bytes, ended) ≡ says i
line_says bytes ended i e short text = rw (not_long (length bytes) short, e)
    (ap said (reads bytes i (item_of bytes) refl text))

pub line_malformed : (bytes : List ℕ) (ended : Bool) → ended ≡ true → length bytes ≤ 4096
    → ((i : Item) → IsItemText bytes i → ⊥) → reading_of (bytes, ended) ≡ malformed
line_malformed bytes ended e short no_text = rw (not_long (length bytes) short, e) (go (item_of bytes) refl) where
  go : (o : Option Item) → item_of bytes ≡ o → said o ≡ malformed
  go None is = refl
  go (Some i) is = absurd (no_text i (item_found bytes i is))

pub line_cut : (bytes : List ℕ) (ended : Bool) → ended ≡ false → length bytes ≤ 4096 → reading_of (bytes, ended) ≡ cut
line_cut bytes ended e short = rw (not_long (length bytes) short, e) refl
