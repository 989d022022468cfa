-- What a section graph holds, in numbers.
use Rattle.std.specs.Prelude.{ℕ, List, map, Some, None, Option}
use Rattle.std.specs.List.{range_with_len, sum_by}
use Rattle.model.specs.declared.Setting.{Setting}
use Rattle.model.specs.declared.Setting.TheVariants.{Foldable, Pinned}
use Rattle.model.specs.declared.Record.{Record}
use Rattle.model.specs.Graph.{Graph, count_of, record_of, root_count_of}
use Rattle.graph.specs.Bytes.{told_size, told_count}
use Rattle.summary.specs.declared.Summary.{Summary}

-- what a section counts for, by its record: an absent one for nothing

abbrev pub one_present : Option Record → ℕ
one_present None = 0
one_present (Some r) = 1

abbrev pub one_if_pinned : Setting → ℕ
one_if_pinned Foldable = 0
one_if_pinned Pinned = 1

abbrev pub one_pinned : Option Record → ℕ
one_pinned None = 0
one_pinned (Some r) = one_if_pinned r.setting

-- the records of the sections with a number below n
abbrev pub records_below : Graph → ℕ → List (Option Record)
records_below g n = map (record_of g) (range_with_len 0 n)

-- these sections
abbrev pub summed : Graph → ℕ → Summary
summed g n =
    record {
      sections = n;
      present = sum_by one_present (records_below g n);
      pinned = sum_by one_pinned (records_below g n);
      bytes = sum_by told_size (records_below g n);
      relocations = sum_by told_count (records_below g n);
      roots = root_count_of g;
    }

-- all of them
abbrev pub summary_of : Graph → Summary
summary_of g = summed g (count_of g)
