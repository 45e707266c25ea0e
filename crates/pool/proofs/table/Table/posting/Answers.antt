use Rattle.std.proofs.Common.{eqb, leb, sym, arith}
use Rattle.std.proofs.lemmas.List.Quantifiers.{position-Some}
use Rattle.std.proofs.lemmas.Bool.{and_parts, leb-true}
use Rattle.agreement.specs.Book.{Member}
use Rattle.pool.specs.Members.{nobody}
use Rattle.pool.proofs.Places.{count_is}
use Rattle.pool.proofs.table.Table.posting.Goals as goal

pub overflow_mul-result : goal.overflow_mul-result
overflow_mul-result c =
    let found = position-Some (λ (m : Member). eqb m.account c.args.posting.account) c.args.self.now.members c.in-Some.place nobody (sym c.in-Some.ensures.at) in
    omega (arith, found.0, count_is c.self.inside c.self.invariant c.args.self.now c.self.view_is, c.self.invariant.few)

pub overflow_add-result : goal.overflow_add-result
overflow_add-result c =
    let found = position-Some (λ (m : Member). eqb m.account c.args.posting.account) c.args.self.now.members c.in-Some.place nobody (sym c.in-Some.ensures.at) in
    omega (arith, found.0, count_is c.self.inside c.self.invariant c.args.self.now c.self.view_is, c.self.invariant.few, c.self.inside.days.most, leb-true _ _ (and_parts (leb 1 c.args.posting.day) (leb c.args.posting.day c.self.inside.days.count) (sym c.if-not-has.ensures)).1)
