-- What a fast reader finds in a line.
use Rattle.std.specs.Prelude.{◌≡◌, ◌⊎◌, ℕ, List, ◌++◌, ◌∷◌, []}
use Rattle.ds_names.specs.Endpoint.{EndpointRecord, IsEndpoint, endpoint_text}

-- Whether the bytes are the text of the endpoint, with or without a newline.
pub record IsEndpointAlone (e : EndpointRecord) (bytes : List ℕ) : Type 0 where
  pub valid : IsEndpoint e
  pub text : (bytes ≡ endpoint_text e) ⊎ (bytes ≡ endpoint_text e ++ 10 ∷ [])
