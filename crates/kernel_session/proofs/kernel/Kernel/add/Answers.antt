use Rattle.std.proofs.Common.{rules, ◌≡◌, ◌∙◌, arith, length, true, map, List, sym, subst}
use Rattle.std.proofs.lemmas.List.{length-map}
use Rattle.tree_model.specs.Sound.{are_distinct}
use Rattle.tree_model.specs.States.{Base, without_name}
use Rattle.doc_store.specs.Stored.{base_of}
use Rattle.kernel_session.specs.Databases.{AreNamed}
use Rattle.kernel_session.proofs.Bases.{put_named, put_distinct, last_within}
use Rattle.kernel_session.proofs.kernel.Kernel.add.Goals as goal

pub invariant_of-self-2 : goal.invariant_of-self-2
invariant_of-self-2 c =
    let len : c.len.result ≡ length c.put.new.databases.items = search rules in
    let many : length (map base_of c.put.new.databases.items) ≡ length c.put.new.databases.items = length-map c.put.new.databases.items base_of in (
      record {
        named = subst AreNamed (sym c.in_ok-put.ensures.put) (put_named (base_of c.args.database) (map base_of c.self.inside.databases.items) c.self.invariant.0.named c.requires.name);
        distinct = subst (λ (l : List Base). are_distinct (map (λ (b : Base). b.name) l) ≡ true) (sym c.in_ok-put.ensures.put) (put_distinct (base_of c.args.database) (map base_of c.self.inside.databases.items) c.self.invariant.0.distinct);
        few = omega (arith, many, c.in_ok-put.ensures.few);
        within = λ place e. last_within (map base_of c.put.new.databases.items) (without_name c.args.database.name (map base_of c.self.inside.databases.items)) (base_of c.args.database) c.len.result place c.in_ok-put.ensures.put (len ∙ sym many) e;
      },
      c.in_ok-put.ensures.whole,
    )
