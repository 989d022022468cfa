-- A buffer that is as long as the text that is written into it.
use Rattle.std.proofs.Common.{◌≡◌, ℕ, ◌≤◌, Bool, true, false, cond, leb, List, ◌++◌, length, take, drop, Ok, Err, Result, sym, ap, ◌∙◌, arith}
use Rattle.std.proofs.lemmas.List.{append-nil, take_at, drop_all}
use Rattle.std.specs.Prelude.{MatchResult}
use Rattle.fault.specs.declared.Fault.{Fault}
use Rattle.row_writer.specs.Writing.{small, wrote, put}
use Rattle.row_writer.proofs.Puts.{put_fits}

-- the length is answered either way

length_in_ok : (x : Bool) (k n : ℕ) → ◌≡◌ {A = Result ℕ Fault} (Ok n) (cond x (Ok k) (Err (small k))) → n ≡ k
length_in_ok true k n h = cc
length_in_ok false k n h = cc

length_in_err : (x : Bool) (k : ℕ) (f : Fault) → ◌≡◌ {A = Result ℕ Fault} (Err f) (cond x (Ok k) (Err (small k))) → f.place ≡ k
length_in_err true k f h = cc
length_in_err false k f h = let e : f ≡ small k = cc in ap (λ (x : Fault). x.place) e

-- the length of a text, from what is answered where it is written
pub wrote_either : (row b : List ℕ) (r : Result ℕ Fault) (n : ℕ) → r ≡ wrote row b → MatchResult r (λ x. n ≡ x) (λ e. n ≡ e.place) → n ≡ length row
unfolding wrote
wrote_either row b (Ok k) n h e = e ∙ length_in_ok (leb (length row) (length b)) (length row) k h
wrote_either row b (Err f) n h e = e ∙ length_in_err (leb (length row) (length b)) (length row) f h

pub put_whole : (row b : List ℕ) → length b ≡ length row → put row b ≡ row
put_whole row b h =
    let room : length row ≤ length b = omega arith in
    let full : length b ≤ length row = omega arith in
    put_fits row b room ∙ ap (λ x. row ++ x) (drop_all (length row) b full) ∙ append-nil row

-- what a vector holds after its slice was written
pub filled : (row b out items : List ℕ) (n : ℕ) → out ≡ put row b → length b ≡ n → n ≡ length row
    → take n (out ++ drop (length out) items) ≡ row
filled row b out items n e h k =
    let same : out ≡ row = e ∙ put_whole row b (h ∙ k) in
    let long : length out ≡ n = ap length same ∙ sym k in
    take_at out (drop (length out) items) n long ∙ same
