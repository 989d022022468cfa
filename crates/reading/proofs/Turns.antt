-- What holds between the sections, and within the entries of one, while relocations are read.
use Rattle.std.proofs.Common.{◌≡◌, ℕ, ◌+◌, ◌*◌, ◌<◌, ◌≤◌, List, ◌++◌, map, length, set, replicate, Some, None, Ok, Err, Option, sym, refl, ap, ◌∙◌}
use Rattle.std.proofs.lemmas.List.{length-replicate, get_or-replicate, length-set}
use Rattle.checklist.specs.Checks.{answer}
use Rattle.checklist.proofs.Checks.{ok_none, err_some, accepts, append_both, append_none, append_some, each_more, each_found}
use Rattle.elf.specs.Layout.{entry_at, sections}
use Rattle.rules.specs.Rules.{entry_checks, entry_rules}
use Rattle.reading.proofs.Parting.{parted_same, parted_more}
use Rattle.std.specs.List.{range_with_len}
use Rattle.std.proofs.lemmas.List.FromFn.{fill_by_all}
use Rattle.rules.specs.Notes.{part_note}
use Rattle.fault.specs.declared.Fault.{Fault}
use Rattle.checklist.specs.Checks.{first_fault, each}
use Rattle.elf.specs.Layout.{place, section}
use Rattle.rules.specs.declared.Part.{Part}
use Rattle.rules.specs.Known.{Parted}
use Rattle.rules.specs.Rules.{part, relocation_rule, part_checks, told_part, entry_rule}

pub record Between (b : List ℕ) (i : ℕ) (bad : Option Fault) (parts : List (Option ℕ)) : Type 0 where
  pub none : bad ≡ None
  pub size : length parts ≡ 1024
  pub noted : Parted b i parts
  pub clear : first_fault (each (relocation_rule b) i) ≡ None

pub record Within (b : List ℕ) (i : ℕ) (bad : Option Fault) (parts : List (Option ℕ)) (m : Part) (j : ℕ) : Type 0 where
  pub none : bad ≡ None
  pub size : length parts ≡ 1024
  pub noted : Parted b (i + 1) parts
  pub clear : first_fault (each (relocation_rule b) i) ≡ None
  pub passed : first_fault (part_checks b i (place b i) (section b i)) ≡ None
  pub told : told_part b (section b i) ≡ Some m
  pub entries : first_fault (each (entry_rule b m.size m.from) j) ≡ None

pub start : (b : List ℕ) → Between b 0 None (replicate 1024 None)
start b =
    record { none = refl; size = length-replicate {A = Option ℕ} 1024 None; noted = λ t h. get_or-replicate {A = Option ℕ} 1024 t None None h; clear = refl }

-- the checks of a section, of which the part is told
whole : (b : List ℕ) (i : ℕ) (o : Option Part) → told_part b (section b i) ≡ o
    → first_fault (relocation_rule b i) ≡ first_fault (part_checks b i (place b i) (section b i) ++ entry_rules b o)
whole b i o e = ap (λ (x : Option Part). first_fault (part_checks b i (place b i) (section b i) ++ entry_rules b x)) e

-- after the last section
pub ended : (b : List ℕ) (i n : ℕ) (refused : Option Fault) (parts : List (Option ℕ)) → Between b i refused parts → i ≡ n
    → (first_fault (each (relocation_rule b) n) ≡ None) × (parts ≡ map (part_note b n) (range_with_len 0 1024))
ended b i n refused parts w e =
    (rw e at w.clear, fill_by_all (part_note b n) parts 1024 None w.size (λ t h. w.noted t h ∙ ap (λ (x : ℕ). part b t x) e))

module _ (b : List ℕ) (i : ℕ) (refused : Option Fault) (parts : List (Option ℕ)) where
  -- a section without relocations that count
  pub passed_over : Between b i refused parts
      → Ok None ≡ answer (first_fault (part_checks b i (place b i) (section b i))) (told_part b (section b i)) → Between b (i + 1) refused parts
  passed_over w e =
      let k = ok_none (first_fault (part_checks b i (place b i) (section b i))) None (told_part b (section b i)) e
      in record {
        none = w.none;
        size = w.size;
        noted = parted_same b i parts (sym k.1) w.noted;
        clear = each_more (relocation_rule b) i w.clear
            (whole b i None (sym k.1) ∙ append_both (part_checks b i (place b i) (section b i)) (entry_rules b None) k.0 refl);
      }

  -- a section with relocations
  pub into : (m : Part) → Between b i refused parts → sections b ≤ 1024
      → Ok (Some m) ≡ answer (first_fault (part_checks b i (place b i) (section b i))) (told_part b (section b i))
      → (m.target < 1024) × Within b i refused (set parts m.target (Some i)) m 0
  into m w few e =
      let k = ok_none (first_fault (part_checks b i (place b i) (section b i))) (Some m) (told_part b (section b i)) e
      in let more = parted_more b i parts m (sym k.1) (accepts (part_checks b i (place b i) (section b i)) k.0) w.size few w.noted
      in (
        more.0,
        record {
          none = w.none;
          size = length-set parts m.target (Some i) ∙ w.size;
          noted = more.1;
          clear = w.clear;
          passed = k.0;
          told = sym k.1;
          entries = refl;
        },
      )

  -- one entry more
  pub entry_more : (m : Part) (j : ℕ) → Within b i refused parts m j
      → first_fault (entry_checks b m.size (m.from + 24 * j) (entry_at b (m.from + 24 * j))) ≡ None → Within b i refused parts m (j + 1)
  entry_more m j w e =
      record {
        none = w.none;
        size = w.size;
        noted = w.noted;
        clear = w.clear;
        passed = w.passed;
        told = w.told;
        entries = each_more (entry_rule b m.size m.from) j w.entries e;
      }

  -- after the last entry
  pub out : (m : Part) (j : ℕ) → Within b i refused parts m j → j ≡ m.count → Between b (i + 1) refused parts
  out m j w e =
      record {
        none = w.none;
        size = w.size;
        noted = w.noted;
        clear = each_more (relocation_rule b) i w.clear
            (whole b i (Some m) w.told
            ∙ append_both (part_checks b i (place b i) (section b i)) (entry_rules b (Some m)) w.passed (rw e at w.entries));
      }

  -- a fault of the section as a whole
  pub part_found : (n : ℕ) (f : Fault) → Between b i refused parts → i < n
      → Err f ≡ answer (first_fault (part_checks b i (place b i) (section b i))) (told_part b (section b i))
      → first_fault (each (relocation_rule b) n) ≡ Some f
  part_found n f w lt e =
      each_found (relocation_rule b) i n f lt w.clear
      (append_some (part_checks b i (place b i) (section b i)) (entry_rules b (told_part b (section b i))) f
      (err_some (first_fault (part_checks b i (place b i) (section b i))) f (told_part b (section b i)) e))

  -- a fault of an entry
  pub entry_found : (n : ℕ) (f : Fault) (m : Part) (j : ℕ) → Within b i refused parts m j → i < n → j < m.count
      → first_fault (entry_checks b m.size (m.from + 24 * j) (entry_at b (m.from + 24 * j))) ≡ Some f
      → first_fault (each (relocation_rule b) n) ≡ Some f
  entry_found n f m j w lt l e =
      each_found (relocation_rule b) i n f lt w.clear
      (whole b i (Some m) w.told
      ∙ (append_none (part_checks b i (place b i) (section b i)) (entry_rules b (Some m)) w.passed
      ∙ each_found (entry_rule b m.size m.from) j m.count f l w.entries e))
