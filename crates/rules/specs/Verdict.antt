-- The verdict on an object: all rules in order, and the first check that does not hold.
use Rattle.std.specs.Prelude.{ℕ, Bool, List, ◌++◌, Option}
use Rattle.fault.specs.declared.Fault.{Fault}
use Rattle.checklist.specs.Checks.{Check, first_fault, all_hold, each}
use Rattle.elf.specs.Layout.{sections}
use Rattle.rules.specs.Rules.{head_rule, extent_rule, content_rule, only_rule, table_rule, relocation_rule}
use Rattle.rules.specs.Listing.{listing_rule, significance_kind}

-- the rules from the last back to all of them

abbrev pub from_only_listing : List ℕ → List Check
from_only_listing b = each (only_rule significance_kind b) (sections b) ++ listing_rule b

abbrev pub from_relocations : List ℕ → List Check
from_relocations b = each (relocation_rule b) (sections b) ++ from_only_listing b

abbrev pub from_table : List ℕ → List Check
from_table b = table_rule b ++ from_relocations b

abbrev pub from_only_table : List ℕ → List Check
from_only_table b = each (only_rule 2 b) (sections b) ++ from_table b

abbrev pub from_contents : List ℕ → List Check
from_contents b = each (content_rule b) (sections b) ++ from_only_table b

abbrev pub from_extents : List ℕ → List Check
from_extents b = each (extent_rule b) (sections b) ++ from_contents b

-- the checks of an object in their order
abbrev pub checks : List ℕ → List Check
checks b = head_rule b ++ from_extents b

-- the refusal, or none
abbrev pub verdict : List ℕ → Option Fault
verdict b = first_fault (checks b)

-- an object is accepted where every check holds
abbrev pub accepted : List ℕ → Bool
accepted b = all_hold (checks b)
