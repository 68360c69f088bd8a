use Rattle.std.proofs.Common.{rules}
use Rattle.std.proofs.lemmas.Fn.{always_returns_same}
use Rattle.std.proofs.lemmas.Cmp.{nat_list_cmp_total}
use Rattle.std.proofs.lemmas.Map.Lookups.{exact_bytes}
use Rattle.ds_names.specs.Key.{name_cmp}
use Rattle.ds_entry.specs.declared.floor.Floor.{Floor}
use Rattle.ds_held.specs.Kept.{owned}
use Rattle.ds_held.proofs.SearchLemmas.{place_from_search}
use Rattle.ds_held.proofs.floors.place_of.Goals as goal

pub returns : goal.returns
returns c =
    place_from_search name_cmp nat_list_cmp_total exact_bytes owned c.args.floors.now c.args.owner.now c.binary_search_by.result c.requires
    c.binary_search_by.ensures.bound
    (c.binary_search_by.ensures.position (λ (x : Floor). name_cmp x.owner c.args.owner.now)
    (always_returns_same _ _ _ (λ a r f' t. search rules)))
