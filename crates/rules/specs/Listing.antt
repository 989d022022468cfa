-- The address-significance table: the symbols whose addresses the program may compare.
use Rattle.std.specs.Prelude.{ℕ, zero, suc, ◌-◌, Bool, true, false, cond, not, ◌&&◌, ◌||◌, List, [], ◌∷◌, ◌++◌, take, drop, Some, None, Ok, Err, Option, Result, ◌==◌, nat_lt, slice_set}
use Rattle.fault.specs.declared.Fault.{Fault}
use Rattle.fault.specs.declared.Kind.TheVariants.{Dangling}
use Rattle.field.specs.declared.Number.{Number}
use Rattle.field.specs.Uleb.{number_at, misshapen}
use Rattle.checklist.specs.Checks.{Check}
use Rattle.elf.specs.declared.Symbol.{Symbol}
use Rattle.elf.specs.Layout.{section, outside}
use Rattle.rules.specs.Rules.{check, fault_at, the_only, symbols, symbol}

-- a number of the table, with the place of its first byte
pub record Item : Type 0 where
  pub place : ℕ
  pub number : Result Number Fault

-- how many bytes of a number are left when k of them are passed, and none where it does not end
abbrev pub left_of : Result Number Fault → ℕ → Option ℕ
left_of (Err f) k = None
left_of (Ok n) k = Some (n.taken - k)

-- the numbers that the bytes from the place p on hold, where the first bytes are the rest of the number before; after a
-- number without an end there are no more
abbrev pub items : Option ℕ → ℕ → List ℕ → List Item
items skip p [] = []
items None p (x ∷ xs) = []
items (Some zero) p (x ∷ xs) =
    record { place = p; number = number_at (x ∷ xs) p } ∷ items (left_of (number_at (x ∷ xs) p) 1) (suc p) xs
items (Some (suc k)) p (x ∷ xs) = items (Some k) (suc p) xs

-- the checks of a number: its form, and that there is such a symbol
abbrev pub number_checks : ℕ → ℕ → Result Number Fault → List Check
number_checks count p (Err f) = check false (misshapen p) ∷ []
number_checks count p (Ok n) = check (nat_lt n.value count) (fault_at Dangling p) ∷ []

abbrev pub item_checks : ℕ → List Item → List Check
item_checks count [] = []
item_checks count (it ∷ its) = number_checks count it.place it.number ++ item_checks count its

-- the type of the table
abbrev pub significance_kind : ℕ
significance_kind = 0x6fff4c03

-- the number of the table
abbrev pub significance : List ℕ → Option ℕ
significance b = the_only significance_kind b

-- the numbers of the table
abbrev pub listing_of : List ℕ → Option ℕ → List Item
listing_of b None = []
listing_of b (Some a) = items (Some 0) (section b a).offset (take (section b a).size (drop (section b a).offset b))

abbrev pub listing : List ℕ → List Item
listing b = listing_of b (significance b)

abbrev pub listing_rule : List ℕ → List Check
listing_rule b = item_checks (symbols b).count (listing b)

-- a symbol is defined in section s
abbrev pub defined_in : Symbol → ℕ → Bool
defined_in y s = not (outside y.section) && y.section == s

abbrev pub names : List ℕ → ℕ → Result Number Fault → Bool
names b s (Err f) = false
names b s (Ok n) = defined_in (symbol b n.value) s

-- some number of these is a symbol that is defined in section s
abbrev pub lists : List ℕ → ℕ → List Item → Bool
lists b s [] = false
lists b s (it ∷ its) = names b s it.number || lists b s its

-- the table lists a symbol that is defined in section s
abbrev pub listed : List ℕ → ℕ → Bool
listed b s = lists b s (listing b)

-- the marks of sections, with that of the section that a symbol is defined in
abbrev pub marked : Symbol → List Bool → List Bool
marked y xs = cond (not (outside y.section) && nat_lt y.section 1024) (slice_set xs y.section true) xs
