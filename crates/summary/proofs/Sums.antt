-- The sums over the sections so far, and that they fit.
use Rattle.std.proofs.Common.{◌≡◌, ℕ, ◌+◌, ◌*◌, ◌<◌, ◌≤◌, Some, None, Option, sym, refl, ap, ◌∙◌, arith}
use Rattle.std.specs.List.{sum_by}
use Rattle.std.proofs.Math.Nat.{add-zero}
use Rattle.std.proofs.lemmas.List.FromFn.{sum_by-map-range_with_len_more}
use Rattle.model.specs.declared.Setting.{Setting}
use Rattle.model.specs.declared.Setting.TheVariants.{Foldable, Pinned}
use Rattle.model.specs.declared.Record.{Record}
use Rattle.model.specs.Graph.{Graph, count_of, record_of, root_count_of}
use Rattle.graph.specs.Bytes.{told_size, told_count}
use Rattle.summary.specs.declared.Summary.{Summary}
use Rattle.summary.specs.Summed.{summary_of, one_present, one_if_pinned, one_pinned, records_below}

pub record Sums (g : Graph) (s present pinned bytes relocations : ℕ) : Type 0 where
  pub present_is : present ≡ sum_by one_present (records_below g s)
  pub pinned_is : pinned ≡ sum_by one_pinned (records_below g s)
  pub bytes_is : bytes ≡ sum_by told_size (records_below g s)
  pub relocations_is : relocations ≡ sum_by told_count (records_below g s)
  pub few_present : present ≤ s
  pub few_pinned : pinned ≤ s
  pub few_bytes : bytes ≤ 65535 * s
  pub few_relocations : relocations ≤ 65535 * s

pub sums_none : (g : Graph) → Sums g 0 0 0 0 0
sums_none g =
    record {
      present_is = refl;
      pinned_is = refl;
      bytes_is = refl;
      relocations_is = refl;
      few_present = omega arith;
      few_pinned = omega arith;
      few_bytes = omega arith;
      few_relocations = omega arith;
    }

pub at_most_one : (x : Setting) → one_if_pinned x ≤ 1
at_most_one Foldable = omega arith
at_most_one Pinned = omega arith

-- one section more
sum_more :
    (g : Graph) (f : Option Record → ℕ) (s total x : ℕ) →
    total ≡ sum_by f (records_below g s) →
    x ≡ f (record_of g s) →
    total + x ≡ sum_by f (records_below g (s + 1))
sum_more g f s total x e h = rw (e, h) (sym (sum_by-map-range_with_len_more f (record_of g) 0 s s (omega arith)))

-- an absent one
pub sums_absent : (g : Graph) (s p q b r : ℕ) → Sums g s p q b r → record_of g s ≡ None → Sums g (s + 1) p q b r
sums_absent g s p q b r t e =
    record {
      present_is = sym (add-zero p) ∙ sum_more g one_present s p 0 t.present_is (sym (ap one_present e));
      pinned_is = sym (add-zero q) ∙ sum_more g one_pinned s q 0 t.pinned_is (sym (ap one_pinned e));
      bytes_is = sym (add-zero b) ∙ sum_more g told_size s b 0 t.bytes_is (sym (ap told_size e));
      relocations_is = sym (add-zero r) ∙ sum_more g told_count s r 0 t.relocations_is (sym (ap told_count e));
      few_present = omega (arith, t.few_present);
      few_pinned = omega (arith, t.few_pinned);
      few_bytes = omega (arith, t.few_bytes);
      few_relocations = omega (arith, t.few_relocations);
    }

-- a present one
pub sums_present : (g : Graph) (s p q b r : ℕ) (x : Record) (dq db dr : ℕ)
    → Sums g s p q b r → record_of g s ≡ Some x → dq ≡ one_if_pinned x.setting → db ≡ x.size → dr ≡ x.relocations
    → db < 65536 → dr < 65536 → Sums g (s + 1) (p + 1) (q + dq) (b + db) (r + dr)
sums_present g s p q b r x dq db dr t e eq eb er hb hr =
    let few = at_most_one x.setting in
    record {
      present_is = sum_more g one_present s p 1 t.present_is (sym (ap one_present e));
      pinned_is = sum_more g one_pinned s q dq t.pinned_is (eq ∙ sym (ap one_pinned e));
      bytes_is = sum_more g told_size s b db t.bytes_is (eb ∙ sym (ap told_size e));
      relocations_is = sum_more g told_count s r dr t.relocations_is (er ∙ sym (ap told_count e));
      few_present = omega (arith, t.few_present);
      few_pinned = omega (arith, t.few_pinned, few);
      few_bytes = omega (arith, t.few_bytes);
      few_relocations = omega (arith, t.few_relocations);
    }

-- all sections
pub sums_all : (g : Graph) (n s p q b r k : ℕ) → Sums g s p q b r → n ≡ count_of g → s ≡ n → k ≡ root_count_of g
    → ◌≡◌ {A = Summary} (record { sections = n; present = p; pinned = q; bytes = b; relocations = r; roots = k }) (summary_of g)
sums_all g n s p q b r k t e h f =
    let end : s ≡ count_of g = h ∙ e in
    let present = t.present_is ∙ ap (λ (m : ℕ). sum_by one_present (records_below g m)) end in
    let pinned = t.pinned_is ∙ ap (λ (m : ℕ). sum_by one_pinned (records_below g m)) end in
    let bytes = t.bytes_is ∙ ap (λ (m : ℕ). sum_by told_size (records_below g m)) end in
    let relocations = t.relocations_is ∙ ap (λ (m : ℕ). sum_by told_count (records_below g m)) end in
    λ i. record { sections = e i; present = present i; pinned = pinned i; bytes = bytes i; relocations = relocations i; roots = f i }
