-- Several traffic declarations over one network.
use Rattle.std.specs.Prelude.{List, [], ◌∷◌, ◌++◌}
use Rattle.std.specs.List.{AllByRecursion}
use Rattle.fx_tables.specs.Classes.{Class}
use Rattle.fx_tables.specs.Network.{Net}
use Rattle.fx_check.specs.Certificates.{IsCertificate}
use Rattle.fx_check.specs.FirstRefusal.{Line}

-- there is a certificate for these classes
abbrev pub IsCertified : Net → List Class → Type 0
IsCertified net classes = (lines : List Line) × IsCertificate net classes lines

-- each declaration has a certificate of its own
abbrev pub AllCertified : Net → List (List Class) → Type 0
AllCertified net declarations = AllByRecursion (IsCertified net) declarations

-- the classes of all declarations, concatenated
abbrev pub all_classes : List (List Class) → List Class
all_classes [] = []
all_classes (classes ∷ declarations) = classes ++ all_classes declarations
