use Rattle.std.proofs.Common.{◌≡◌, ℕ, zero, suc, ◌+◌, ◌*◌, ◌/◌, ◌%◌, ◌<◌, nat_abs, ap, ◌∙◌, subst, arith, rules}
use mir.Syntax.{w128}
use Rattle.std.proofs.lemmas.Int.{to_z-of_z}
use Rattle.std.proofs.Math.Nat.{mul-lt-mul_of_pos_left, div-add-mod}
use Rattle.wording.proofs.dollars.dollars_of.Goals as goal

-- units that are each worth so much, so many to the dollar
whole_size : (worth many n : ℕ) → worth * many ≡ 100000000000 → n / many * 100000000000 + n % many * worth ≡ worth * n
whole_size worth many n h =
    let e = div-add-mod n many in
    subst (λ d. n / many * d + n % many * worth ≡ worth * n) h (subst (λ m. n / many * (worth * many) + n % many * worth ≡ worth * m) e (omega arith))

small_rest : (worth many r : ℕ) → worth * many ≡ 100000000000 → r < many → r * worth < 100000000000
small_rest zero many r h k = omega arith
small_rest (suc w) many r h k =
    let p : 0 < suc w = omega arith in
    let l = mul-lt-mul_of_pos_left {k = suc w} k p in
    omega arith

pub returns : goal.returns
returns c =
    let many = c.args.to_the_dollar in
    let n = c.unsigned_abs-size.result in
    let e = c.unsigned_abs-size.ensures.value ∙ ap nat_abs (to_z-of_z w128 c.args.units c.ranges.units) in
    let p : 0 < many = search rules in
    record {
      sign = search rules;
      size = whole_size c.args.worth many n c.requires ∙ ap (λ m. c.args.worth * m) e;
      below = small_rest c.args.worth many (n % many) c.requires (search rules);
    }
