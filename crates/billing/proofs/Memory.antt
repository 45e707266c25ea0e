-- The memory lent, with the records kept at its front.
use Rattle.std.proofs.Common.{◌≡◌, ℕ, ◌≤◌, List, ◌++◌, length, take, drop, sym, refl, ap, ◌∙◌}
use Rattle.std.proofs.lemmas.List.{take-append-drop, length-take-le, drop_at}
use Rattle.billing.specs.declared.keeping.Keeping.{Keeping}
use Rattle.billing.specs.declared.keeping.Numbered.{Ghosts}
use Rattle.billing.specs.Keepings.{kept, lent, over, Leaves}

-- memory that differs from what it was only in its first n places
over_front : {R : Type 0} (n : ℕ) (before after : List R) → n ≤ length after → drop n after ≡ drop n before → after ≡ over (take n after) before
over_front n before after h e =
    sym (take-append-drop n after) ∙ ap (λ l. take n after ++ l) e ∙ ap (λ k. take n after ++ drop k before) (sym (length-take-le n after h))

module _ {R : Type 0} {g : Ghosts R} where
  -- a call that wrote to the places of the records alone
  pub leaves_by : (j k : Keeping R g) (xs : List R) → kept k ≡ xs → drop k.len (lent k) ≡ drop k.len (lent j) → k.slots.ghost_name ≡ j.slots.ghost_name → Leaves j k xs
  leaves_by j k xs e behind same =
      record { keeps = e; memory = over_front k.len (lent j) (lent k) k.fits behind ∙ ap (λ l. over l (lent j)) e; lender = same }

  -- a refused call leaves a keeping as it was
  pub stays : (k : Keeping R g) (xs : List R) → xs ≡ kept k → Leaves k k xs
  stays k xs e = leaves_by k k xs (sym e) refl refl

  -- two calls, of which the second leaves as many records
  pub leaves_next : (i j k : Keeping R g) (xs ys : List R) → length ys ≡ length xs → Leaves i j xs → Leaves j k ys → Leaves i k ys
  leaves_next i j k xs ys e a b =
      record {
        keeps = b.keeps;
        memory = b.memory ∙ ap (over ys) a.memory ∙ ap (λ l. ys ++ l) (drop_at xs (drop (length xs) (lent i)) (length ys) (sym e)) ∙ ap (λ n. ys ++ drop n (lent i)) (sym e);
        lender = b.lender ∙ a.lender;
      }
