-- Subscriptions may cross threads, like the filters that they hold.
use denote.Param.Send.{IsSend, IsSync, sendable}
use denote.Param.SendFields.{declared_send, declared_sync}
use Rattle.std.proofs.Crossing.{crosses}
use Rattle.ds_pattern.proofs.CrossingLemmas.{filter_send, filter_sync}
use Rattle.ds_watch.specs.contracts.subscription.Subscription as Subscription
use Rattle.ds_watch.specs.contracts.subscription.Subscription.TheInside as in_subscription
use Rattle.ds_watch.specs.contracts.subscriptions.Subscriptions as Subscriptions
use Rattle.ds_watch.specs.contracts.subscriptions.Subscriptions.TheInside as in_subscriptions

subscription_send : IsSend Subscription.the_row
subscription_send =
    let inside : IsSend in_subscription.the_row =
    declared_send in_subscription.the_type (search (filter_send, sendable) depth 40, (search sendable depth 40, tt)) in
    search (inside, sendable) depth 40

pub subscriptions_send : IsSend Subscriptions.the_row
subscriptions_send =
    let inside : IsSend in_subscriptions.the_row =
    declared_send in_subscriptions.the_type
    (search (subscription_send, sendable, crosses) depth 40, (search sendable depth 40, (search sendable depth 40, tt))) in
    search (inside, sendable) depth 40

subscription_sync : IsSync Subscription.the_row
subscription_sync =
    let inside : IsSync in_subscription.the_row =
    declared_sync in_subscription.the_type (search (filter_sync, sendable) depth 40, (search sendable depth 40, tt)) in
    search (inside, sendable) depth 40

pub subscriptions_sync : IsSync Subscriptions.the_row
subscriptions_sync =
    let inside : IsSync in_subscriptions.the_row =
    declared_sync in_subscriptions.the_type
    (search (subscription_sync, sendable, crosses) depth 40, (search sendable depth 40, (search sendable depth 40, tt))) in
    search (inside, sendable) depth 40
