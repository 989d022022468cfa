-- What a buffer holds after each reply, and replies in numbers.
use Rattle.std.proofs.Common.{◌≡◌, ℕ, List, refl}
use Rattle.fault.specs.declared.Fault.{Fault}
use Rattle.row_writer.specs.Writing.{over}
use Rattle.buffers.specs.declared.Done.{Done}
use Rattle.buffers.specs.declared.Reply.{Reply}
use Rattle.buffers.specs.declared.Reply.TheVariants.{Written, Short, Refused}
use Rattle.buffers.specs.declared.plain.Status.TheVariants.{UnknownCall}
use Rattle.buffers.specs.Outcome.{put_if}
use Rattle.buffers.specs.Plain.{nothing, unrefused, numbers_of, no_memory, put_where}

pub put_written : (d : Done) (text b : List ℕ) → put_if (Written d) text b ≡ over text b
unfolding put_if
put_written d text b = refl

pub put_short : (f : Fault) (d : Done) (text b : List ℕ) → put_if (Short f d) text b ≡ b
unfolding put_if
put_short f d text b = refl

pub put_refused : (f : Fault) (text b : List ℕ) → put_if (Refused f) text b ≡ b
unfolding put_if
put_refused f text b = refl

-- the status says whether all is written

pub put_numbers : (r : Reply) (text b : List ℕ) → put_where (numbers_of r) text b ≡ put_if r text b
unfolding put_if numbers_of put_where
put_numbers (Written d) text b = refl
put_numbers (Short f d) text b = refl
put_numbers (Refused f) text b = refl

pub put_unknown : (k : ℕ) (text b : List ℕ) → put_where (unrefused UnknownCall k nothing) text b ≡ b
unfolding put_where
put_unknown k text b = refl

pub put_no_memory : (text b : List ℕ) → put_where no_memory text b ≡ b
unfolding put_where
put_no_memory text b = refl

-- no reply of the library is one for want of memory
pub numbers_known : (r : Reply) → (numbers_of r).status ≡ 2 → ⊥
unfolding numbers_of
numbers_known (Written d) h = cc
numbers_known (Short f d) h = cc
numbers_known (Refused f) h = cc
