use Rattle.std.proofs.Common.{ℕ, List, Option, ap, ◌∙◌, position, eqb}
use Rattle.std.specs.Option.{is_some}
use Rattle.agreement.specs.Book.{Book, Member}
use Rattle.pool.specs.declared.table.Enrolled.{Enrolled}
use Rattle.pool.proofs.Places.{same_place}
use Rattle.pool.proofs.Posted.{enrolled_is}
use Rattle.pool.proofs.table.Table.place.Goals as goal

at : goal.returns-clause-at
at c =
    let t = c.self.inside in
    let a = c.args.account in
    c.first_with.ensures
    ∙ ap (λ (es : List Enrolled). position (λ (e : Enrolled). eqb e.account a) es) c.deref.ensures.0
    ∙ same_place t.days.count a t.members.items t.cells
    ∙ ap (λ (b : Book). position (λ (m : Member). eqb m.account a) b.members) c.self.view_is

pub returns-clause-at : goal.returns-clause-at
returns-clause-at c = at c

pub returns-clause-known : goal.returns-clause-known
returns-clause-known c = ap (λ (o : Option ℕ). is_some o) (at c) ∙ enrolled_is c.args.account c.args.self.now.members
