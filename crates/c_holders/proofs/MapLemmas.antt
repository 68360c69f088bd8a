-- Calls on a map of C are takes of the map.
use Rattle.std.proofs.Common.{◌≡◌, List, [], ◌∷◌, refl, sym, ap, ◌∙◌, subst, inl, inr}
use Rattle.history.specs.History.{Path}
use Rattle.ds_entry.specs.declared.item.Item.{Item}
use Rattle.ds_submap.specs.Map.{SubMapRecord, empty_map}
use Rattle.ds_submap.specs.Take.{done_items}
use Rattle.ds_pattern.specs.declared.query.Query.{Query}
use Rattle.ds_pattern.specs.Under.{query_of}
use Rattle.c_store.specs.Map.{GivesItems}
use Rattle.holders.specs.Holding.{MergesUnder}
use Rattle.c_holders.specs.Maps.{AreTakes, HandlesAreMaps, LeadsByOffer, Offered}

-- The takes of the calls, which keep the query.
pub record Took (calls : List Offered) (old new : SubMapRecord) : Type 0 where
  pub takes : List (List Item)
  pub did : AreTakes calls takes
  pub path : Path MergesUnder old takes new
  pub query : new.query ≡ old.query

took : (calls : List Offered) (old new : SubMapRecord) → Path LeadsByOffer old calls new → Took calls old new
took [] old new path = record { takes = []; did = refl; path = path; query = sym (ap (λ (m : SubMapRecord). m.query) path) }
took (o ∷ os) old new path = by_call path.1 (took os path.0 new path.2)
  where
    by_call : GivesItems old o.text o.answer path.0 → Took os path.0 new → Took (o ∷ os) old new
    by_call (inl g) rest = record {
      takes = done_items g.takes.taken g.items ∷ rest.takes;
      did = inr (
        done_items g.takes.taken g.items,
        rest.takes,
        refl,
        record { items = g.items; lines = g.lines; taken = g.takes.taken; answer_is = g.takes.told; done_is = refl },
        rest.did,
      );
      path = (path.0, record { joined = g.takes.joined; query = g.takes.query }, rest.path);
      query = rest.query ∙ g.takes.query;
    }
    by_call (inr (inl s)) rest = record {
      takes = rest.takes;
      did = inl (inl s.1.told_is, rest.did);
      path = subst (λ (m : SubMapRecord). Path MergesUnder m rest.takes new) s.1.map_is rest.path;
      query = rest.query ∙ ap (λ (m : SubMapRecord). m.query) s.1.map_is;
    }
    by_call (inr (inr s)) rest = record {
      takes = rest.takes;
      did = inl (inr s.1.told_is, rest.did);
      path = subst (λ (m : SubMapRecord). Path MergesUnder m rest.takes new) s.1.map_is rest.path;
      query = rest.query ∙ ap (λ (m : SubMapRecord). m.query) s.1.map_is;
    }

pub handles_are_maps : HandlesAreMaps
handles_are_maps kinds pattern first now calls is path =
    let t = took calls first now path in
    let under_query : now.query ≡ query_of pattern kinds = t.query ∙ ap (λ (m : SubMapRecord). m.query) is.value in
    let from : Path MergesUnder (empty_map (query_of pattern kinds)) t.takes now =
    subst (λ (m : SubMapRecord). Path MergesUnder m t.takes now) is.value t.path in (
      t.takes,
      t.did,
      record {
        takes = t.takes;
        path = subst (λ (q : Query). Path MergesUnder (empty_map q) t.takes now) (sym under_query) from;
        known_is =
            refl;
      },
    )
